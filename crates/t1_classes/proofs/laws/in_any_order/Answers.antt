use Rattle.t1_classes.proofs.Partitioned.{any_order}
use Rattle.t1_classes.proofs.laws.in_any_order.Goals as goal

pub returns : goal.returns
returns c = any_order
