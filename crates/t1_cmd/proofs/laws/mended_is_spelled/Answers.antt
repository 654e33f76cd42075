use Rattle.t1_cmd.proofs.MendLemmas.{mended_is_spelled}
use Rattle.t1_cmd.proofs.laws.mended_is_spelled.Goals as goal

pub returns : goal.returns
returns c = mended_is_spelled
