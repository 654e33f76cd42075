use Rattle.std.proofs.Common.{◌≡◌, map, drop}
use Rattle.t1_document.{specs.{Joins.{fonts_of_places}, Views.{place_view}}, proofs.JoinLoops.{fonts_before}}
use Rattle.t1_document.proofs.joins.sources_of.Given as goal

abbrev pub invariant-places : goal.invariant-places
invariant-places l = fonts_before l.sources.items (fonts_of_places (map place_view (drop l.place-index l.places))) ≡ fonts_of_places (map place_view l.places)
