use Rattle.t1_classes.proofs.Partitioned.{one_class, equal_together}
use Rattle.t1_classes.proofs.laws.each_in_one_class.Goals as goal

pub returns-clause-places : goal.returns-clause-places
returns-clause-places c = one_class

pub returns-clause-equal : goal.returns-clause-equal
returns-clause-equal c = equal_together
