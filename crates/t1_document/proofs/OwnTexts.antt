-- The font texts that places have: they can stand where they stand, and a document that is to have them stays.
use Rattle.std.proofs.Common.{◌≡◌, ℕ, Bool, true, false, cond, List, [], ◌∷◌, ◌++◌, map, Option, Some, None, refl, sym, ap, ◌∙◌, inl, inr}
use Rattle.std.specs.{Prelude.{◌&&◌, not}, List.{AllByRecursion}, Str.{bytes_eq}}
use Rattle.t1_document.specs.{declared.marks.Open.{Open}, declared.marks.Mark.{Mark}, Marks.{has_mark}, Stretches.{Stretch, stretches, AreStretches}, Fonts.{font_in}}
use Rattle.t1_document.specs.Documents.{Place, Document, document_bytes, none_open, open_behind, next_mark, place_at, behind_bytes, at_stretch, document_from, document_of}
use Rattle.t1_document.specs.{Rewriting.{NewTexts, is_font, can_stand, is_refused, standing, levelled, with_new, renewed}, Laws.{HasNew}}
use Rattle.t1_document.proofs.{StretchLemmas.{stretches_those}, FontLemmas.{font_stands}, PlaceLemmas.{is_place, document_text}, Rewritten.{same_bytes, level_renews}}

-- ---- they can stand

-- a text that is read as a font text of a place's name before the place's rest, and has no mark, can stand
stands_there : (text : List ℕ) (p : Place) → has_mark (text ++ p.rest) ≡ false →
    font_in (text ++ p.rest) ≡ Some (record { name = p.name; text = text; rest = p.rest }) → can_stand text p ≡ true
stands_there text p unmarked found =
    ap (λ (b : Bool). not b && is_font p.name text p.rest (font_in (text ++ p.rest))) unmarked
    ∙ (ap (is_font p.name text p.rest) found
    ∙ (ap (λ (b : Bool). b && bytes_eq text text && bytes_eq p.rest p.rest) (same_bytes p.name)
    ∙ (ap (λ (b : Bool). true && b && bytes_eq p.rest p.rest) (same_bytes text) ∙ ap (λ (b : Bool). true && true && b) (same_bytes p.rest))))

-- the text of a place can stand there
pub own_stands : (o : Open) (s : Stretch) (next : Option Mark) (p : Place) → has_mark s.text ≡ false → place_at o s next ≡ Some p → can_stand p.text p ≡ true
own_stands o s next p unmarked e =
    let i = is_place o s next p e in
    let f = font_stands s.text i.font i.found in
    let whole : s.text ≡ p.text ++ p.rest = f.whole ∙ ap (λ (q : Place). q.text ++ q.rest) (sym i.is) in
    stands_there p.text p (ap has_mark (sym whole) ∙ unmarked)
    (ap font_in (sym whole) ∙ (i.found ∙ ap (λ (q : Place). Some (record { name = q.name; text = q.text; rest = q.rest })) (sym i.is)))

-- each place can have its own text
abbrev pub Own : Place → Type 0
Own p = can_stand p.text p ≡ true

own_behind : (b : List ℕ) (ps : List Place) (last : List ℕ) → AllByRecursion Own ps → AllByRecursion Own (behind_bytes b ps last).places
own_behind b [] last all = tt
own_behind b (p ∷ ps) last all = all

step_own : (o : Open) (s : Stretch) (next : Option Mark) (d : Document) → has_mark s.text ≡ false → AllByRecursion Own d.places →
    (q : Option Place) → place_at o s next ≡ q → AllByRecursion Own (at_stretch s q d).places
step_own o s next d unmarked all None e = own_behind (s.line ++ s.text) d.places d.last all
step_own o s next d unmarked all (Some p) e = (own_stands o s next p unmarked e, all)

from_own : (o : Open) (ss : List Stretch) → AreStretches ss → AllByRecursion Own (document_from o ss).places
unfolding document_from
from_own o [] each = tt
from_own o (s ∷ ss) each =
    let behind = open_behind o s.mark in
    step_own o s (next_mark ss) (document_from behind ss) each.0.unmarked (from_own behind ss each.1) (place_at o s (next_mark ss)) refl

-- each place of a text can have its own text
pub own_texts_stand : (text : List ℕ) → AllByRecursion Own (document_of text).places
unfolding document_of
own_texts_stand text =
    let x = stretches text in
    let d = document_from none_open x.1 in
    own_behind x.0 d.places d.last (from_own none_open x.1 (stretches_those text).each)

-- ---- they stay

new_is_own : (refused : Bool) (new : NewTexts) (p : Place) → HasNew new p → with_new (cond refused None (new p.name)) p ≡ p
new_is_own true new p h = refl
new_is_own false new p (inl e) = ap (λ (o : Option (List ℕ)). with_new o p) e
new_is_own false new p (inr e) = ap (λ (o : Option (List ℕ)). with_new o p) e

all_stay : (new : NewTexts) (all ps : List Place) → AllByRecursion (HasNew new) ps → map (renewed (standing new all)) ps ≡ ps
all_stay new all [] h = refl
all_stay new all (p ∷ ps) h =
    ap (λ (q : Place). q ∷ map (renewed (standing new all)) ps) (new_is_own (is_refused new all p.name) new p h.0)
    ∙ ap (λ (qs : List Place). p ∷ qs) (all_stay new all ps h.1)

-- a document that is to have its own texts stays
pub own_texts_stay : (new : NewTexts) (text : List ℕ) → AllByRecursion (HasNew new) (document_of text).places → levelled new text ≡ text
own_texts_stay new text h =
    let d = document_of text in
    ap document_bytes (level_renews new d)
    ∙ (ap (λ (ps : List Place). document_bytes (record { places = ps; last = d.last })) (all_stay new d.places d.places h) ∙ document_text text)
