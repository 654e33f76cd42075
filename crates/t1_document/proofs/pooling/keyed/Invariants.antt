use Rattle.std.proofs.Common.{◌≡◌, ◌++◌, map, drop}
use Rattle.t1_document.specs.{Pooling.{keyed}, Views.{place_view}}
use Rattle.t1_document.proofs.pooling.keyed.Given as goal

abbrev pub invariant-places : goal.invariant-places
invariant-places l = map place_view l.keyed.items ++ keyed l.by (map place_view (drop l.place-index l.places)) ≡ keyed l.by (map place_view l.places)
