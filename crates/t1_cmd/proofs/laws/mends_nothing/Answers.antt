use Rattle.t1_cmd.proofs.MendLemmas.{mends_nothing}
use Rattle.t1_cmd.proofs.laws.mends_nothing.Goals as goal

pub returns : goal.returns
returns c = mends_nothing
