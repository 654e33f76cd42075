use Rattle.t1_cmd.proofs.MendLemmas.{mends_again}
use Rattle.t1_cmd.proofs.laws.mends_again.Goals as goal

pub returns : goal.returns
returns c = mends_again
