use Rattle.std.proofs.Common.{◌≡◌, ◌++◌, map, drop}
use Rattle.t1_document.specs.{Rewriting.{without_refused, level_fates, fated_bytes}, Texts.{text_in, has_text}, Views.{place_view}}
use Rattle.t1_document.proofs.rewriting.push_levelled.Given as goal

abbrev pub invariant-places : goal.invariant-places
invariant-places l =
    l.out.items ++ fated_bytes (level_fates (without_refused (has_text l.refused) (text_in l.new)) (map place_view (drop l.place-index l.places))) l.last
    ≡ l.fn.out.items ++ fated_bytes (level_fates (without_refused (has_text l.refused) (text_in l.new)) (map place_view l.places)) l.last
