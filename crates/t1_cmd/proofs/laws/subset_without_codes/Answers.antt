use Rattle.t1_cmd.proofs.CodeLemmas.{without_codes}
use Rattle.t1_cmd.proofs.laws.subset_without_codes.Goals as goal

pub returns : goal.returns
returns c = without_codes
