use Rattle.t1_classes.proofs.Partitioned.{none_join}
use Rattle.t1_classes.proofs.laws.no_two_join.Goals as goal

pub returns : goal.returns
returns c = none_join
