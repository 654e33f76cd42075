use Rattle.t1_algebra.proofs.Drawings.{left_alike, right_alike}
use Rattle.t1_subset.proofs.laws.joins_draw.Goals as goal

pub returns : goal.returns
returns c f g j = (left_alike f g j.states, right_alike f g j.states)
