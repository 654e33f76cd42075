-- Which rules a file needs that spells a font widely.
use Rattle.std.proofs.Common.{◌≡◌, ℕ, ◌<◌, arith, Bool, true, false, cond, if◌then◌else◌, List, [], ◌∷◌, ◌++◌, length, Option, Some, None, Result, Ok, Err, refl, sym, ap, subst, ◌∙◌}
use Rattle.std.proofs.lemmas.List.{append-nil, length-append, length-drop}
use Rattle.t1_font.specs.declared.fault.ReadFault.{ReadFault}
use Rattle.t1_text.specs.{declared.dialect.Dialect.{Dialect}, declared.dialect.Rule.{Rule}, declared.dialect.Rule.TheVariants.{EncodingComments, CopiedCodes, ReadonlyWord, SubrsComments}}
use Rattle.t1_text.specs.{Dialect.{strict, wide, without}, FontTest.{found_test, around, is_untested, tested_head, untested, place_taken, taken_test}}
use Rattle.t1_font.specs.declared.mend.Mend.{Mend}
use Rattle.t1_font.specs.{FontValue.{FontValue}, ReadFont.{font_file, read_font}, Spelling.{Spells, SpellsWidely}}
use Rattle.t1_font.specs.Mends.{place_of, mend_by, by_reading, needed, all_rules, mends_by_rules}
use Rattle.t1_font.proofs.{Spelled.{reads, reads_again, one_font}, Widely.{spells_widely}, MapLemmas.{Some_None}}
use Rattle.t1_text.proofs.Untested.{Around, around_found, begins_test}

module _ (file : List ℕ) (d : Dialect) (r : Rule) where
  -- a rule that isn't needed has no mend
  pub not_needed : (f : FontValue) (rs : List Rule) → (font_file (without r d) file).read ≡ Ok f → needed file d (r ∷ rs) ≡ needed file (without r d) rs
  not_needed f rs e = ap (by_reading r (needed file (without r d) rs) (needed file d rs)) e

  -- one that is needed has one
  pub is_needed : (e : ReadFault) (rs : List Rule) → (font_file (without r d) file).read ≡ Err e →
      needed file d (r ∷ rs) ≡ mend_by r (place_of e) ∷ needed file d rs
  is_needed fault rs e = ap (by_reading r (needed file (without r d) rs) (needed file d rs)) e

  -- where no rule is needed, this one isn't, and none of the others without it
  none_needed : (rs : List Rule) → needed file d (r ∷ rs) ≡ [] →
      (f : FontValue) × ((font_file (without r d) file).read ≡ Ok f) × (needed file (without r d) rs ≡ [])
  none_needed rs none = by_read (font_file (without r d) file).read refl none
    where
      by_read : (o : Result FontValue ReadFault) → (font_file (without r d) file).read ≡ o →
          by_reading r (needed file (without r d) rs) (needed file d rs) o ≡ [] →
          (f : FontValue) × ((font_file (without r d) file).read ≡ Ok f) × (needed file (without r d) rs ≡ [])
      by_read (Ok f) e none = (f, e, none)
      by_read (Err e) h none = cc

-- one rule after the other is tried: what is found so far and what is still needed stay together the same
abbrev pub Tried : List ℕ → Rule → Dialect → List Mend → Dialect → List Mend → Type 0
Tried file r d old less new = (rs : List Rule) → old ++ needed file d (r ∷ rs) ≡ new ++ needed file less rs

-- once all were tried, all that is needed is found
pub all_tried : (file : List ℕ) (d0 d1 d2 d3 d4 : Dialect) (m0 m1 m2 m3 m4 : List Mend) → d0 ≡ wide → m0 ≡ [] →
    Tried file EncodingComments d0 m0 d1 m1 → Tried file CopiedCodes d1 m1 d2 m2 → Tried file ReadonlyWord d2 m2 d3 m3 →
    Tried file SubrsComments d3 m3 d4 m4 → m4 ≡ needed file wide all_rules
all_tried file d0 d1 d2 d3 d4 m0 m1 m2 m3 m4 begins none a b c d =
    let found : m0 ++ needed file d0 all_rules ≡ m4 = a (CopiedCodes ∷ ReadonlyWord ∷ SubrsComments ∷ [])
    ∙ (b (ReadonlyWord ∷ SubrsComments ∷ []) ∙ (c (SubrsComments ∷ []) ∙ (d [] ∙ append-nil m4))) in
    sym found ∙ (λ i. none i ++ needed file (begins i) all_rules)

-- a file that needs no rule is read without any
strictly_read : (file : List ℕ) → needed file wide all_rules ≡ [] → (f : FontValue) × (read_font file ≡ Ok f)
strictly_read file none =
    let plain : Dialect = without EncodingComments wide in
    let names : Dialect = without CopiedCodes plain in
    let words : Dialect = without ReadonlyWord names in
    let a = none_needed file wide EncodingComments (CopiedCodes ∷ ReadonlyWord ∷ SubrsComments ∷ []) none in
    let b = none_needed file plain CopiedCodes (ReadonlyWord ∷ SubrsComments ∷ []) a.2 in
    let c = none_needed file names ReadonlyWord (SubrsComments ∷ []) b.2 in
    let d = none_needed file words SubrsComments [] c.2 in
    (d.0, d.1)

-- a file that spells a font widely needs no rule exactly if it spells it anyhow
pub needs_no_rule : (file : List ℕ) (f : FontValue) → SpellsWidely file f →
    (mends_by_rules file (read_font file) ≡ [] → Spells file f) × (Spells file f → mends_by_rules file (read_font file) ≡ [])
needs_no_rule file f s = (λ none. by_read (read_font file) refl none, λ spells. ap (mends_by_rules file) (reads_again strict file f spells))
  where
    the_font : (g : FontValue) → read_font file ≡ Ok g → Spells file f
    the_font g e =
        let spells : Spells file g = reads strict file g e in
        subst (Spells file) (one_font wide file g f (spells_widely file g spells) s) spells

    by_read : (o : Result FontValue ReadFault) → read_font file ≡ o → mends_by_rules file o ≡ [] → Spells file f
    by_read (Ok g) e none = the_font g e
    by_read (Err e) h none = let g = strictly_read file none in the_font g.0 g.1

-- what stands around a test is shorter than the head
around_short : (head : List ℕ) (x : (List ℕ × List ℕ) × List ℕ) → Around head x → length (around x) < length head
around_short head x a = omega (
  arith,
  ap length a.whole,
  length-append x.0.0 (a.break ∷ (a.text ++ x.1)),
  length-append a.text x.1,
  ap length (begins_test a.text x.1 a.test).1,
  length-drop 1 (x.0.0 ++ (x.0.1 ++ x.1)),
  length-append x.0.0 (x.0.1 ++ x.1),
  length-append x.0.1 x.1,
  ap length a.one,
)

-- a head has no test to mend exactly if it is not changed
pub tells_the_test : (head : List ℕ) → (taken_test head ≡ None → untested head ≡ head) × (untested head ≡ head → taken_test head ≡ None)
tells_the_test head = by_found (found_test head) refl
  where
    taken : ((List ℕ × List ℕ) × List ℕ) → Bool → Option ℕ
    taken x b = if b then Some (length x.0.0) else None

    by_test : (x : (List ℕ × List ℕ) × List ℕ) → found_test head ≡ Some x → (b : Bool) →
        (taken x b ≡ None → cond b (around x) head ≡ head) × (cond b (around x) head ≡ head → taken x b ≡ None)
    by_test x e true = (λ none. Some_None none, λ same. absurd (omega (arith, ap length same, around_short head x (around_found head x e))))
    by_test x e false = (λ none. refl, λ same. refl)

    by_found : (o : Option ((List ℕ × List ℕ) × List ℕ)) → found_test head ≡ o →
        (place_taken o ≡ None → tested_head head o ≡ head) × (tested_head head o ≡ head → place_taken o ≡ None)
    by_found None e = (λ none. refl, λ same. refl)
    by_found (Some x) e = by_test x e (is_untested (around x))
