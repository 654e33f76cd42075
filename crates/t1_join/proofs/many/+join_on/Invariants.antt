use Rattle.std.proofs.Common.{length}
use Rattle.t1_join.proofs.many.+join_on.Given as goal

abbrev pub decreases-join_on : goal.decreases-join_on
decreases-join_on g l = length l.list.now
