use Rattle.t1_classes.proofs.{Partitioned.{classes_join}, Rejoined.{joined_rejoin}}
use Rattle.t1_classes.proofs.laws.classes_join.Goals as goal

pub returns-clause-classes : goal.returns-clause-classes
returns-clause-classes c = classes_join

pub returns-clause-texts : goal.returns-clause-texts
returns-clause-texts c = joined_rejoin
