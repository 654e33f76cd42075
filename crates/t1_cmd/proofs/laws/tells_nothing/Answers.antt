use Rattle.t1_cmd.proofs.MendLemmas.{tells_nothing}
use Rattle.t1_cmd.proofs.laws.tells_nothing.Goals as goal

pub returns : goal.returns
returns c = tells_nothing
