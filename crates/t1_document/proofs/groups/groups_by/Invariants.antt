use Rattle.std.proofs.Common.{◌≡◌, ℕ, List, map, take}
use Rattle.t1_document.specs.{Groups.{places_in}, Pooling.{places_by}, Views.{place_view}}
use Rattle.t1_document.proofs.groups.groups_by.Given as goal

abbrev pub invariant-places : goal.invariant-places
invariant-places l = (key : List ℕ) → places_in l.groups key ≡ places_by l.by key (map place_view (take l.place-index l.places))
