use Rattle.t1_algebra.proofs.Fonts.{any_order_of_fonts}
use Rattle.t1_subset.proofs.laws.any_order.Goals as goal

pub returns : goal.returns
returns c = any_order_of_fonts _
