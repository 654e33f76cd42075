use Rattle.t1_text.proofs.BoxOrder.{in_any_order}
use Rattle.t1_text.proofs.laws.box_in_any_order.Goals as goal

pub returns : goal.returns
returns c = in_any_order
