use Rattle.std.{proofs.Common.{◌≡◌, map, drop}, specs.List.{list_any}}
use Rattle.t1_document.specs.{Pooling.{clashes}, Views.{place_view}}
use Rattle.t1_document.proofs.pooling.any_clashes.Given as goal

abbrev pub invariant-places : goal.invariant-places
invariant-places l =
    list_any (λ p. clashes l.start p.name) (map place_view (drop l.place-index l.places)) ≡ list_any (λ p. clashes l.start p.name) (map place_view l.places)
