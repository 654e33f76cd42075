use Rattle.t1_dsc.proofs.FreeNames.{names_are_free}
use Rattle.t1_dsc.proofs.laws.names_are_free.Goals as goal

pub returns : goal.returns
returns c = names_are_free
