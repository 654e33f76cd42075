use Rattle.std.{proofs.Common.{◌≡◌, map, drop}, specs.List.{list_all}}
use Rattle.t1_document.specs.{Pooling.{takes_line}, Views.{place_view}}
use Rattle.t1_document.proofs.entries.all_take_lines.Given as goal

abbrev pub invariant-places : goal.invariant-places
invariant-places l =
    list_all (takes_line l.start l.key l.answers) (map place_view (drop l.place-index l.places))
    ≡ list_all (takes_line l.start l.key l.answers) (map place_view l.places)
