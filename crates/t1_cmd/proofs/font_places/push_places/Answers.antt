use Rattle.std.{proofs.{Common.{◌<◌, ◌^◌, refl, ap, arith, rules, List, length, map}, lemmas.List.{drop_more}}, specs.List.{flat_map}}
use Rattle.t1_document.specs.{declared.documents.Place.{Place as CodePlace}, Documents.{place_bytes}, Groups.{outcome_in}, Views.{place_view, document_view}}
use Rattle.t1_cmd.proofs.FontPlaceLemmas.{places_short, listed_on}
use Rattle.t1_cmd.proofs.font_places.push_places.Goals as goal

pub places-init : goal.places-init
places-init c =
    let same = ap (λ (ps : List CodePlace). length (flat_map place_bytes (map place_view ps))) c.as_slice-place-items.ensures.value in
    let short = places_short c.args.text.now (document_view c.args.document.now) c.requires in
    let fits : length c.args.text.now < 2 ^ 64 = search rules in
    record { lines = refl; short = omega (arith, same, short, fits) }

pub places-preserved : goal.places-preserved
places-preserved c =
    let places = c.as_slice-place-items.result.now in
    let i = c.places.place-index in
    listed_on (outcome_in c.args.joins.now) c.args.label.now c.args.out.now.items places i c.places.out.items c.places.at c.places.invariant _
    (drop_more places i _ c.places-test.true) _ c.get.ensures c.push_place.new.out.items c.text_offset.result c.end_offset-at.result
    c.text_offset.ensures c.end_offset-at.ensures c.in_ok-push_place.ensures
