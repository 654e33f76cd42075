use Rattle.std.proofs.Common.{length}
use Rattle.t1_join.proofs.many.+join_halves.Given as goal

abbrev pub decreases-join_halves : goal.decreases-join_halves
decreases-join_halves g l = length l.list.now
