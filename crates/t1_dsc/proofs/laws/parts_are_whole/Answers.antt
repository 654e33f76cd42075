use Rattle.t1_dsc.proofs.Wholes.{parts_are_whole}
use Rattle.t1_dsc.proofs.laws.parts_are_whole.Goals as goal

pub returns : goal.returns
returns c = parts_are_whole
