use Rattle.std.{proofs.{Common.{◌≡◌, ◌++◌, ◌∷◌, arith, [], ℕ, List, Some, None, drop, map, refl, sym, ap, subst, ◌∙◌}, lemmas.List.{map-append}}, specs.{List.{AllByRecursion}, Option.{option_map}}}
use Rattle.t1_document.specs.{declared.documents.Place.{Place as CodePlace}, Stretches.{stretches}}
use Rattle.t1_document.specs.{Documents.{none_open, open_behind, next_mark, place_with, place_at, Document, document_bytes, document_of}, Views.{font_view, place_view, stretch_view}}
use Rattle.t1_document.specs.Laws.{SpellsPlace}
use Rattle.t1_document.proofs.{PlaceLemmas.{document_text}, Spelled.{places_spell}, StretchLemmas.{front_len}}
use Rattle.t1_document.proofs.DocumentSteps.{Walks, Comes, walk_starts, walk_past, walk_place, walk_ends, walks_same, clamped_is}
use Rattle.t1_document.proofs.documents.read_document.Goals.{In_default, in-Some-2+in_ok-push, in_default-2}
use Rattle.t1_document.proofs.documents.read_document.Goals as goal

pub split_at-requires : goal.split_at-requires
split_at-requires c = rw c.unmarked_len.ensures (front_len c.args.text.now)

pub stretches-init : goal.stretches-init
stretches-init c =
    let text = c.args.text.now in
    let rest = c.split_at.result.1.now in
    let start = walk_starts text rest (c.split_at.ensures.back ∙ ap (λ (n : ℕ). drop n text) c.unmarked_len.ensures) in
    subst (λ (ps : List CodePlace). Walks text text rest none_open (map place_view ps)) (sym c.new-places.ensures.items) start

pub stretches-preserved : goal.stretches-preserved
stretches-preserved c =
    let text = c.args.text.now in
    let here = c.stretches.here.now in
    let rest = c.stretches.rest.now in
    let behind = c.in-Some.behind.now in
    let s = stretch_view c.in-Some.stretch in
    let o = c.stretches.around in
    let items = c.stretches.places.items in
    let done = map place_view items in
    let comes : Comes rest behind s = record {
      first = c.in-Some.ensures.first;
      whole = c.in-Some.ensures.whole;
      none = c.in-Some.ensures.behind;
      shorter = c.in-Some.ensures.shorter;
    } in
    let found : option_map (λ f. place_with o s (font_view f)) c.in_ok-font.field-0 ≡ place_at o s (next_mark (stretches behind).1) =
    c.in_ok-font.ensures ∙ ap (place_at o s) c.mark_at.ensures in
    elim c.match-branch-2.branch [
      | in-Some-2+in_ok-push w ↦
          let p = place_with o s (font_view w.in-Some-2.font) in
          let before = w.split_at-in-Some-2.result.0.now in
          let is : place_at o s (next_mark (stretches behind).1) ≡ Some p =
          sym found ∙ ap (option_map (λ f. place_with o s (font_view f))) w.in-Some-2.is in
          let pushed : map place_view c.match-branch-2.places.items ≡ done ++ record p { before = before } ∷ [] =
          ap (λ v. map place_view v.items) w.places-is ∙ (ap (map place_view) w.in_ok-push.ensures.items ∙ map-append place_view items (_ ∷ [])) in
          let next = walk_place text here rest behind o done s p before c.stretches.invariant comes is refl w.split_at-in-Some-2.ensures.front in
          walks_same text behind c.match-branch-2.here.now behind (open_behind o s.mark) c.behind-around.result
          (done ++ record p { before = before } ∷ []) (map place_view c.match-branch-2.places.items)
          (ap (λ h. h.now) w.here-is) (c.behind-around.ensures ∙ clamped_is (open_behind o s.mark) text behind next.documents next.raw (omega arith)) pushed
          next
      | in_default-2 w ↦
          let none : place_at o s (next_mark (stretches behind).1) ≡ None = sym found ∙ ap (option_map (λ f. place_with o s (font_view f))) w.in_default-2.is in
          let next = walk_past text here rest behind o done s c.stretches.invariant comes none in
          walks_same text here c.match-branch-2.here.now behind (open_behind o s.mark) c.behind-around.result done
          (map place_view c.match-branch-2.places.items)
          (ap (λ h. h.now) w.here-is) (c.behind-around.ensures ∙ clamped_is (open_behind o s.mark) text behind next.documents next.raw (omega arith))
          (ap (λ v. map place_view v.items) w.places-is) next
    ]

known : (c : In_default) → document_of c.args.text.now ≡ record { places = map place_view c.stretches.places.items; last = c.stretches.here.now }
known c =
    walk_ends c.args.text.now c.stretches.here.now c.stretches.rest.now c.stretches.around (map place_view c.stretches.places.items)
    c.stretches.invariant c.in_default.ensures.first

pub returns-clause-exact : goal.returns-clause-exact
returns-clause-exact c = sym (known c)

pub returns-clause-whole : goal.returns-clause-whole
returns-clause-whole c = ap document_bytes (sym (known c)) ∙ document_text c.args.text.now

pub returns-clause-spell : goal.returns-clause-spell
returns-clause-spell c = subst (λ (d : Document). AllByRecursion SpellsPlace d.places) (known c) (places_spell c.args.text.now)
