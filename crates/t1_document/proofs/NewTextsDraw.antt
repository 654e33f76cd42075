-- What the places of a name get spells a font in which theirs stay.
use Rattle.std.proofs.{Common.{◌≡◌, ℕ, Bool, true, false, cond, refl, sym, ◌∙◌, ap, subst, List, [], ◌∷◌, ◌++◌, Option, Some, None, Result, Ok, Err}, lemmas.Bool.{and_parts, true≢false}}
use Rattle.std.proofs.{lemmas.Option.{none-some, same_Some}, lemmas.Slice.Eq.{bytes_eq-Decides}, lemmas.List.{append-nil}}
use Rattle.std.specs.{Prelude.{◌&&◌, not}, List.{AllByRecursion, flat_map, list_all}, Option.{option_and_then}, Str.{bytes_eq}}
use Rattle.t1_bytes.specs.{Laws.{AreBytes}, FlatText.{starts_segment}}
use Rattle.t1_font.specs.{declared.fault.ReadFault.{ReadFault}, FontValue.{FontValue}, IsFont.{IsFont}, ReadFont.{read_font_widely}, FontNames.{normalized_named}}
use Rattle.t1_text.specs.Dialect.{wide}
use Rattle.t1_font.proofs.{ByteLemmas.{has_bytes}, read_fonts.ReadFontLaws.{read_is_font}}
use Rattle.t1_text.proofs.Bytes.{bytes_left, bytes_right}
use Rattle.t1_document.specs.{declared.joins.Outcome.{Outcome}, declared.joins.Outcome.TheVariants.{Same, Joined, Stays}, Fonts.{FontText, font_in, canon_text}, Marks.{has_mark}}
use Rattle.t1_document.specs.{Documents.{Place, place_bytes, document_of}, Rewriting.{is_font, can_stand}}
use Rattle.t1_document.specs.{Joins.{places_of_all, places_under, fonts_of_places, with_font, text_for_places, ComeTo, OfPlaces, OfFonts, OfNormalized, IsSame}, Laws.{SpellsPlace}}
use Rattle.t1_document.specs.JoinLaws.{StaysIn, FontStaysIn, NewTextsDraw}
use Rattle.t1_document.proofs.{PlaceLemmas.{document_text}, FontLemmas.{font_stands}, Spelled.{places_spell}, CanonTexts.{canon_read}, Drawn.{name_bytes, rejoined_stay, stays_in_itself}}

-- ---- places of documents

-- a place whose name and text are bytes, and whose text spells a font
pub record IsSound (p : Place) : Type 0 where
  pub name : AreBytes p.name
  pub text : AreBytes p.text
  pub font : FontValue
  pub spelled : read_font_widely p.text ≡ Ok font

places_bytes : (ps : List Place) (last : List ℕ) → AreBytes (flat_map place_bytes ps ++ last) → AllByRecursion (λ p. AreBytes p.text) ps
places_bytes [] last h = tt
places_bytes (p ∷ ps) last h =
    let rest = flat_map place_bytes ps in
    let all : AreBytes (place_bytes p ++ rest) = bytes_left (place_bytes p ++ rest) last h in
    let own : AreBytes (place_bytes p) = bytes_left (place_bytes p) rest all in
    let behind : AreBytes rest = bytes_right (place_bytes p) rest all in
    (bytes_left p.text p.rest (bytes_right p.before (p.text ++ p.rest) own), places_bytes ps [] (subst AreBytes (sym (append-nil rest)) behind))

-- the name of a font in bytes is bytes
sound : (p : Place) → AreBytes p.text → SpellsPlace p → IsSound p
sound p b s =
    let font = read_is_font wide p.text s.font b s.spelled in
    record { name = name_bytes s.font.shell.head p.name (has_bytes s.font font).texts.head s.named; text = b; font = s.font; spelled = s.spelled }

both : (ps : List Place) → AllByRecursion (λ p. AreBytes p.text) ps → AllByRecursion SpellsPlace ps → AllByRecursion IsSound ps
both [] b s = tt
both (p ∷ ps) b s = (sound p b.0 s.0, both ps b.1 s.1)

pub places_sound : (text : List ℕ) → AreBytes text → AllByRecursion IsSound (document_of text).places
places_sound text h =
    let d = document_of text in
    both d.places (places_bytes d.places d.last (subst AreBytes (sym (document_text text)) h)) (places_spell text)

append_sound : (ps qs : List Place) → AllByRecursion IsSound ps → AllByRecursion IsSound qs → AllByRecursion IsSound (ps ++ qs)
append_sound [] qs a b = b
append_sound (p ∷ ps) qs a b = (a.0, append_sound ps qs a.1 b)

pub all_sound : (documents : List (List ℕ)) → AllByRecursion AreBytes documents → AllByRecursion IsSound (places_of_all documents)
all_sound [] h = tt
all_sound (d ∷ ds) h = append_sound (document_of d).places (places_of_all ds) (places_sound d h.0) (all_sound ds h.1)

-- those of a name
abbrev pub IsUnder : List ℕ → Place → Type 0
IsUnder name p = IsSound p × (p.name ≡ name)

pub sound_under : (name : List ℕ) (ps : List Place) → AllByRecursion IsSound ps → AllByRecursion (IsUnder name) (places_under name ps)
sound_under name [] h = tt
sound_under name (p ∷ ps) h = by_test (bytes_eq p.name name) refl (sound_under name ps h.1)
  where
    by_test : (b : Bool) → bytes_eq p.name name ≡ b → AllByRecursion (IsUnder name) (places_under name ps) →
        AllByRecursion (IsUnder name) (cond b (p ∷ places_under name ps) (places_under name ps))
    by_test true e more = ((h.0, (bytes_eq-Decides p.name name).0 e), more)
    by_test false e more = more

-- ---- one text

stay_of_text : (j : FontValue) (text : List ℕ) → read_font_widely text ≡ Ok j → (ps : List Place) → list_all (λ q. bytes_eq text q.text) ps ≡ true →
    AllByRecursion (FontStaysIn j) ps
stay_of_text j text e [] h = tt
stay_of_text j text e (p ∷ ps) h =
    let k = and_parts (bytes_eq text p.text) (list_all (λ q. bytes_eq text q.text) ps) h in (
      (j, subst (λ (t : List ℕ). read_font_widely t ≡ Ok j) ((bytes_eq-Decides text p.text).0 k.0) e, stays_in_itself j),
      stay_of_text j text e ps k.1,
    )

-- ---- fonts that rejoin

-- the fonts that places spell, one for each
abbrev pub AreFonts : List Place → List FontValue → Type 0
AreFonts [] [] = Unit {0}
AreFonts [] (f ∷ fs) = ⊥
AreFonts (p ∷ ps) [] = ⊥
AreFonts (p ∷ ps) (f ∷ fs) = (read_font_widely p.text ≡ Ok f) × AreFonts ps fs

pub fonts_read : (ps : List Place) (fs : List FontValue) → fonts_of_places ps ≡ Ok fs → AreFonts ps fs
fonts_read [] [] e = tt
fonts_read [] (f ∷ fs) e = absurd cc
fonts_read (p ∷ ps) fs e = by_read (read_font_widely p.text) (fonts_of_places ps) refl refl fs e (λ gs k. fonts_read ps gs k)
  where
    by_read : (r : Result FontValue ReadFault) (more : Result (List FontValue) ReadFault) → read_font_widely p.text ≡ r → fonts_of_places ps ≡ more →
        (fs : List FontValue) → with_font r more ≡ Ok fs → ((gs : List FontValue) → fonts_of_places ps ≡ Ok gs → AreFonts ps gs) → AreFonts (p ∷ ps) fs
    by_read (Ok f) (Ok gs) h k fs w others =
        let same : f ∷ gs ≡ fs = cc in
        subst (AreFonts (p ∷ ps)) same (h, others gs k)
    by_read (Ok f) (Err e) h k fs w others = absurd cc
    by_read (Err e) more h k fs w others = absurd cc

pub fonts_sound : (name : List ℕ) (ps : List Place) (fs : List FontValue) → AllByRecursion (IsUnder name) ps → AreFonts ps fs → AllByRecursion IsFont fs
fonts_sound name [] [] u r = tt
fonts_sound name [] (f ∷ fs) u r = absurd r
fonts_sound name (p ∷ ps) [] u r = absurd r
fonts_sound name (p ∷ ps) (f ∷ fs) u r = (read_is_font wide p.text f u.0.0.text r.0, fonts_sound name ps fs u.1 r.1)

fonts_stay : (j : FontValue) (ps : List Place) (fs : List FontValue) → AreFonts ps fs → AllByRecursion (λ f. StaysIn f j) fs → AllByRecursion (FontStaysIn j) ps
fonts_stay j [] [] r s = tt
fonts_stay j [] (f ∷ fs) r s = absurd r
fonts_stay j (p ∷ ps) [] r s = absurd r
fonts_stay j (p ∷ ps) (f ∷ fs) r s = ((f, r.0, s.0), fonts_stay j ps fs r.1 s.1)

-- a text that can stand at a place begins no segment
stands_plain : (text : List ℕ) (p : Place) → can_stand text p ≡ true → starts_segment text ≡ false
stands_plain text p h = by_font (font_in (text ++ p.rest)) refl
    (and_parts (not (has_mark (text ++ p.rest))) (is_font p.name text p.rest (font_in (text ++ p.rest))) h).1
  where
    by_font : (o : Option FontText) → font_in (text ++ p.rest) ≡ o → is_font p.name text p.rest o ≡ true → starts_segment text ≡ false
    by_font None e k = absurd (true≢false (sym k))
    by_font (Some f) e k =
        let parts = and_parts (bytes_eq f.name p.name && bytes_eq f.text text) (bytes_eq f.rest p.rest) k in
        let more = and_parts (bytes_eq f.name p.name) (bytes_eq f.text text) parts.0 in
        let same : f.text ≡ text = (bytes_eq-Decides f.text text).0 more.1 in
        ap starts_segment (sym same ∙ (font_stands (text ++ p.rest) f e).starts)

-- ---- what a name gets

-- it spells a font in which the fonts of these places stay
abbrev pub IsGood : List Place → List ℕ → Type 0
IsGood ps text = (j : FontValue) × (read_font_widely text ≡ Ok j) × AllByRecursion (FontStaysIn j) ps

of_normalized : (name : List ℕ) (p : Place) (ps : List Place) (fs : List FontValue) → AllByRecursion (IsUnder name) (p ∷ ps) → AreFonts (p ∷ ps) fs →
    (o : Outcome) (text : List ℕ) → OfNormalized (normalized_named name fs) (p ∷ ps) o → text_for_places o ≡ Some text → IsGood (p ∷ ps) text
of_normalized name p ps fs u r (Same t) text h e = absurd h
of_normalized name p ps fs u r (Stays why) text h e = absurd (none-some text e)
of_normalized name p ps fs u r (Joined t) text h e =
    let j = h.0.0 in
    let bytes : AreBytes name = subst AreBytes u.0.1 u.0.0.name in
    let stay = rejoined_stay name fs j bytes (fonts_sound name (p ∷ ps) fs u r) h.0.1 in
    let same : text ≡ canon_text j = sym (same_Some t.items text e) ∙ h.0.2 in
    let stands : can_stand (canon_text j) p ≡ true =
    subst (λ (t : List ℕ). can_stand t p ≡ true) h.0.2 (and_parts (can_stand t.items p) (list_all (can_stand t.items) ps) h.1).0 in
    (j, ap read_font_widely same ∙ canon_read j stay.0 (stands_plain (canon_text j) p stands), fonts_stay j (p ∷ ps) fs r stay.1)

of_fonts : (name : List ℕ) (p : Place) (ps : List Place) → AllByRecursion (IsUnder name) (p ∷ ps) → (r : Result (List FontValue) ReadFault) →
    fonts_of_places (p ∷ ps) ≡ r → (o : Outcome) (text : List ℕ) → OfFonts name (p ∷ ps) r o → text_for_places o ≡ Some text → IsGood (p ∷ ps) text
of_fonts name p ps u (Ok fs) k o text h e = of_normalized name p ps fs u (fonts_read (p ∷ ps) fs k) o text h e
of_fonts name p ps u (Err fault) k o text h e = absurd (none-some text (ap text_for_places (sym h) ∙ e))

of_same : (p : Place) (ps : List Place) → IsSound p → list_all (λ q. bytes_eq p.text q.text) ps ≡ true → (o : Outcome) (text : List ℕ) → IsSame p.text o →
    text_for_places o ≡ Some text → IsGood (p ∷ ps) text
of_same p ps s all (Joined t) text h e = absurd h
of_same p ps s all (Stays why) text h e = absurd h
of_same p ps s all (Same t) text h e =
    let same : text ≡ p.text = sym (same_Some t.now text e) ∙ h in (
      s.font,
      ap read_font_widely same ∙ s.spelled,
      ((s.font, s.spelled, stays_in_itself s.font), stay_of_text s.font p.text s.spelled ps all),
    )

of_places : (name : List ℕ) (p : Place) (ps : List Place) → AllByRecursion (IsUnder name) (p ∷ ps) → (b : Bool) →
    list_all (λ q. bytes_eq p.text q.text) ps ≡ b → (o : Outcome) (text : List ℕ) → OfPlaces name (p ∷ ps) p.text b o → text_for_places o ≡ Some text →
    IsGood (p ∷ ps) text
of_places name p ps u true all o text h e = of_same p ps u.0.0 all o text h e
of_places name p ps u false all o text h e = of_fonts name p ps u (fonts_of_places (p ∷ ps)) refl o text h e

pub come_to : (name : List ℕ) (ps : List Place) → AllByRecursion (IsUnder name) ps → (o : Option Outcome) (text : List ℕ) → ComeTo name ps o →
    option_and_then text_for_places o ≡ Some text → IsGood ps text
come_to name ps u None text h e = absurd (none-some text e)
come_to name [] u (Some o) text h e = absurd (none-some o (sym h))
come_to name (p ∷ ps) u (Some o) text h e = of_places name p ps u (list_all (λ q. bytes_eq p.text q.text) ps) refl o text h e

pub new_texts_draw : NewTextsDraw
new_texts_draw documents bytes outcomes are name text e =
    let ps = places_of_all documents in
    come_to name (places_under name ps) (sound_under name ps (all_sound documents bytes)) (outcomes name) text (are name) e
