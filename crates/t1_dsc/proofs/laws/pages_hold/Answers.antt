use Rattle.t1_dsc.proofs.LinesStay.{pages_hold}
use Rattle.t1_dsc.proofs.laws.pages_hold.Goals as goal

pub returns : goal.returns
returns c = pages_hold
