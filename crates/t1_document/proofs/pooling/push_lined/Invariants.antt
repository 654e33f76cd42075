use Rattle.std.proofs.Common.{◌≡◌, ◌++◌, map, drop}
use Rattle.t1_document.specs.{Rewriting.{fated_bytes}, Pooling.{line_fates}, Texts.{text_in}, Views.{place_view}}
use Rattle.t1_document.proofs.pooling.push_lined.Given as goal

abbrev pub invariant-places : goal.invariant-places
invariant-places l =
    l.out.items ++ fated_bytes (line_fates l.start l.by (text_in l.ends) (map place_view (drop l.place-index l.places))) l.last
    ≡ l.fn.out.items ++ fated_bytes (line_fates l.start l.by (text_in l.ends) (map place_view l.places)) l.last
