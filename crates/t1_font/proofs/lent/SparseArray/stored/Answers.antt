use Rattle.std.specs.FinMap.{entries_sorted}
use Rattle.t1_font.proofs.lent.SparseArray.stored.Goals as goal

pub invariant_of-result : goal.invariant_of-result
invariant_of-result c = entries_sorted c.args.own
