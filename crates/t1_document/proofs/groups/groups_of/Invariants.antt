use Rattle.std.proofs.Common.{◌≡◌, ℕ, List, map, take}
use Rattle.t1_document.specs.{Joins.{places_under}, Groups.{places_in}, Views.{place_view}}
use Rattle.t1_document.proofs.groups.groups_of.Given as goal

abbrev pub invariant-places : goal.invariant-places
invariant-places l = (name : List ℕ) → places_in l.groups name ≡ places_under name (map place_view (take l.place-index l.places))
