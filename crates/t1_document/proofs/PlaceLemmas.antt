-- What is known of a place, and the bytes of documents.
use Rattle.std.proofs.{Common.{◌≡◌, ℕ, Bool, true, false, cond, List, [], ◌∷◌, ◌++◌, Option, Some, None, refl, sym, ap, ◌∙◌, append_assoc}, lemmas.Option.{none-some, same_Some}}
use Rattle.std.specs.{Prelude.{◌==◌, ◌&&◌}, Option.{option_map}}
use Rattle.t1_document.specs.{declared.marks.Open.{Open}, declared.marks.Mark.{Mark}, Stretches.{Stretch, stretches, stretches_bytes}, Fonts.{FontText, font_in}}
use Rattle.t1_document.specs.Documents.{Place, Document, place_bytes, document_bytes, none_open, open_behind, encloses, next_mark, place_with, place_at, prepended, at_stretch, document_from}
use Rattle.t1_document.specs.Documents.{document_of}
use Rattle.t1_document.proofs.{StretchLemmas.{stretches_joined}, FontLemmas.{font_stands}}

-- ---- a stretch that is a place

-- the font text of a stretch that is a place
pub record IsPlace (o : Open) (s : Stretch) (next : Option Mark) (p : Place) : Type 0 where
  pub font : FontText
  pub test : (encloses s.mark next && (o.raw == 0)) ≡ true
  pub found : font_in s.text ≡ Some font
  pub is : p ≡ place_with o s font

mapped : {A B : Type 0} (f : A → B) (o : Option A) (y : B) → option_map f o ≡ Some y → (x : A) × (o ≡ Some x) × (f x ≡ y)
mapped f None y e = absurd (none-some y e)
mapped f (Some x) y e = (x, refl, same_Some (f x) y e)

if_some : {A : Type 0} (test : Bool) (o : Option A) (y : A) → cond test o None ≡ Some y → (test ≡ true) × (o ≡ Some y)
if_some true o y e = (refl, e)
if_some false o y e = absurd (none-some y e)

-- a place has one
pub is_place : (o : Open) (s : Stretch) (next : Option Mark) (p : Place) → place_at o s next ≡ Some p → IsPlace o s next p
is_place o s next p e =
    let t = if_some (encloses s.mark next && (o.raw == 0)) (option_map (place_with o s) (font_in s.text)) p e in
    let f = mapped (place_with o s) (font_in s.text) p t.1 in
    record { font = f.0; test = t.0; found = f.1; is = sym f.2 }

-- its text is that of the place, with the rest
pub place_whole : (o : Open) (s : Stretch) (next : Option Mark) (p : Place) → place_at o s next ≡ Some p → (p.before ≡ s.line) × (s.text ≡ p.text ++ p.rest)
place_whole o s next p e =
    let i = is_place o s next p e in
    let f = font_stands s.text i.font i.found in
    (ap (λ (q : Place). q.before) i.is, f.whole ∙ ap (λ (q : Place). q.text ++ q.rest) (sym i.is))

-- ---- the bytes of documents

-- bytes before a document are the first of its bytes
pub prepended_bytes : (b : List ℕ) (d : Document) → document_bytes (prepended b d) ≡ b ++ document_bytes d
prepended_bytes b d = by_places d.places d.last
  where
    by_places : (ps : List Place) (last : List ℕ) →
        document_bytes (prepended b (record { places = ps; last = last })) ≡ b ++ document_bytes (record { places = ps; last = last })
    by_places [] last = refl
    by_places (p ∷ ps) last =
        let behind = document_bytes (record { places = ps; last = last }) in
        simp append_assoc

stretch_bytes : (o : Open) (s : Stretch) (next : Option Mark) (d : Document) (behind : List ℕ) → document_bytes d ≡ behind →
    (q : Option Place) → place_at o s next ≡ q → document_bytes (at_stretch s q d) ≡ (s.line ++ s.text) ++ behind
stretch_bytes o s next d behind same None e = prepended_bytes (s.line ++ s.text) d ∙ ap (λ (t : List ℕ). (s.line ++ s.text) ++ t) same
stretch_bytes o s next d behind same (Some p) e =
    let w = place_whole o s next p e in
    let own : place_bytes p ≡ s.line ++ s.text = rw (w.0, w.1) refl in
    append_assoc (place_bytes p) _ d.last ∙ (ap (λ (t : List ℕ). place_bytes p ++ t) same ∙ ap (λ (t : List ℕ). t ++ behind) own)

-- the bytes of the document of stretches are those of the stretches
pub from_bytes : (o : Open) (ss : List Stretch) → document_bytes (document_from o ss) ≡ stretches_bytes ss
unfolding document_from
from_bytes o [] = refl
from_bytes o (s ∷ ss) =
    let behind = open_behind o s.mark in
    stretch_bytes o s (next_mark ss) (document_from behind ss) (stretches_bytes ss) (from_bytes behind ss) (place_at o s (next_mark ss)) refl

-- the bytes of a text's document are the text
pub document_text : (text : List ℕ) → document_bytes (document_of text) ≡ text
unfolding document_of
document_text text =
    let x = stretches text in
    prepended_bytes x.0 (document_from none_open x.1)
    ∙ (ap (λ (t : List ℕ). x.0 ++ t) (from_bytes none_open x.1) ∙ stretches_joined text)
