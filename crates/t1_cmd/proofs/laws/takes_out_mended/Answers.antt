use Rattle.t1_cmd.proofs.ExtractLemmas.{takes_out_mended}
use Rattle.t1_cmd.proofs.laws.takes_out_mended.Goals as goal

pub returns : goal.returns
returns c = takes_out_mended
