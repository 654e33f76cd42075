use Rattle.t1_dsc.proofs.LinesStay.{lines_stay}
use Rattle.t1_dsc.proofs.laws.lines_stay.Goals as goal

pub returns : goal.returns
returns c = lines_stay
