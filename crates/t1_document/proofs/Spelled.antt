-- The fonts that places spell.
use Rattle.std.proofs.{Common.{◌≡◌, ℕ, true, List, [], ◌∷◌, ◌++◌, length, Option, Some, None, Result, Ok, Err, refl, sym, ap, subst, ◌∙◌}, lemmas.Bool.{ltb-true}}
use Rattle.std.proofs.lemmas.Option.{none-some, option_and_then_some, cond_some}
use Rattle.std.specs.List.{AllByRecursion}
use Rattle.t1_bytes.specs.White.{has_bytes}
use Rattle.t1_font.specs.{declared.fault.ReadFault.{ReadFault}, FontValue.{FontValue}, ReadFont.{read_font_widely}}
use Rattle.t1_text.specs.Tags.{name_in}
use Rattle.t1_document.specs.{declared.marks.Open.{Open}, declared.marks.Mark.{Mark}, Stretches.{Stretch, stretches}, Fonts.{if_any, name_read, spelled_name}}
use Rattle.t1_document.specs.{Documents.{Place, Document, none_open, open_behind, next_mark, place_at, behind_bytes, at_stretch, document_from, document_of}, Laws.{SpellsPlace}}
use Rattle.t1_document.proofs.{FontLemmas.{font_stands}, PlaceLemmas.{is_place}}

-- a name that was read is that of a font
pub spells_name : (p : Place) → spelled_name p.text ≡ Some p.name → SpellsPlace p
unfolding spelled_name
spells_name p e = by_read (read_font_widely p.text) refl e
  where
    by_read : (r : Result FontValue ReadFault) → read_font_widely p.text ≡ r → name_read r ≡ Some p.name → SpellsPlace p
    by_read (Ok font) h k = option_and_then_some if_any (name_in font.shell.head) p.name k (λ name n s.
        let c = cond_some (has_bytes name) name p.name s in
        record {
          font = font;
          spelled = h;
          named = n ∙ ap (λ (m : List ℕ). Some m) c.1;
          some = ltb-true 0 (length p.name) (subst (λ (m : List ℕ). has_bytes m ≡ true) c.1 c.0);
        })
    by_read (Err fault) h k = absurd (none-some p.name k)

place_spells : (o : Open) (s : Stretch) (next : Option Mark) (p : Place) → place_at o s next ≡ Some p → SpellsPlace p
place_spells o s next p e =
    let i = is_place o s next p e in
    let f = font_stands s.text i.font i.found in
    spells_name p (subst (λ (q : Place). spelled_name q.text ≡ Some q.name) (sym i.is) f.name)

prepended_spell : (b : List ℕ) (ps : List Place) (last : List ℕ) → AllByRecursion SpellsPlace ps → AllByRecursion SpellsPlace (behind_bytes b ps last).places
prepended_spell b [] last all = tt
prepended_spell b (p ∷ ps) last all =
    let s = all.0 in
    (record { font = s.font; spelled = s.spelled; named = s.named; some = s.some }, all.1)

step_spells : (o : Open) (s : Stretch) (next : Option Mark) (d : Document) → AllByRecursion SpellsPlace d.places → (q : Option Place) → place_at o s next ≡ q →
    AllByRecursion SpellsPlace (at_stretch s q d).places
step_spells o s next d all None e = prepended_spell (s.line ++ s.text) d.places d.last all
step_spells o s next d all (Some p) e = (place_spells o s next p e, all)

from_spells : (o : Open) (ss : List Stretch) → AllByRecursion SpellsPlace (document_from o ss).places
unfolding document_from
from_spells o [] = tt
from_spells o (s ∷ ss) =
    let behind = open_behind o s.mark in
    step_spells o s (next_mark ss) (document_from behind ss) (from_spells behind ss) (place_at o s (next_mark ss)) refl

-- each place of a text's document spells one
pub places_spell : (text : List ℕ) → AllByRecursion SpellsPlace (document_of text).places
unfolding document_of
places_spell text =
    let x = stretches text in
    let d = document_from none_open x.1 in
    prepended_spell x.0 d.places d.last (from_spells none_open x.1)
