use Rattle.std.proofs.Common.{length}
use Rattle.t1_run.specs.SubrSet.{AreListed}
use Rattle.t1_run.proofs.subr_set.SubrSet.clear.Given as goal

abbrev pub invariant-order : goal.invariant-order
invariant-order l = AreListed l.self-inside.places.items l.self-inside.order.items

abbrev pub decreases-order : goal.decreases-order
decreases-order l = length l.self-inside.order.items
