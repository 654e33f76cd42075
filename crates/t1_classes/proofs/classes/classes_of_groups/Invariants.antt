use Rattle.std.proofs.Common.{◌∷◌, take}
use Rattle.t1_classes.specs.{Classes.{AreClasses}, Views.{lent, group_lists}}
use Rattle.t1_classes.proofs.classes.classes_of_groups.Given as goal

abbrev pub invariant-rest : goal.invariant-rest
invariant-rest l = AreClasses l.name (lent l.files) (lent l.first.items ∷ group_lists (take l.group-index l.rest)) l.classes.items
