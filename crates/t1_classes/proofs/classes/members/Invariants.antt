use Rattle.std.proofs.Common.{◌≡◌, ◌++◌, drop}
use Rattle.t1_classes.specs.{Classes.{places_from, places_of}, Views.{lent}}
use Rattle.t1_classes.proofs.classes.members.Given as goal

abbrev pub invariant-files : goal.invariant-files
invariant-files l = l.members.items ++ places_from l.place (lent (drop l.place l.files)) (lent l.group) ≡ places_of (lent l.files) (lent l.group)
