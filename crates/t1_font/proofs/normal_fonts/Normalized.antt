-- A normalized font is a font, and so is one that is filled.
use Rattle.std.proofs.{Common.{◌≡◌, ℕ, ◌≤◌, ◌<◌, arith, Bool, true, false, cond, List, [], ◌∷◌, map, Option, Some, None, inl, inr, refl, sym, ap, subst, ◌∙◌}, lemmas.Bool.{ltb-true}}
use Rattle.std.specs.{Prelude.{nat_lt}, Option.{option_map}, Ordering.{nat_cmp, eq_by_cmp}, Cmp.{nat_cmp_total, Equal-is}}
use Rattle.std.specs.FinMap.{find, get, entries, get-entries, get-from_entries, retain_keys, same_map, nat_cmp-IsAntisymmetric}
use Rattle.t1_font.specs.{FontValue.{FontValue, Shell, SubrsShell, SparseArray, declared_count, count_limit, weight_limit, weight}, Cut.{stub}, Maps.{merged}, NormalTexts.{normal_texts}}
use Rattle.t1_font.specs.{Normalizing.{raised, normal_shell, normal, stubs_at, below_count, with_stubs, filled}, IsFont.{IsFont, SubrsFit, SubrWords}}
use Rattle.t1_text.specs.FontWords.{IsCharstring, IsWord, IsPhrase}
use Rattle.t1_font.proofs.{MapLemmas.{is_or_not, joined, get-merged, get-retain, find_first, Some_None}, Kept.{iv_small, merged_has}}
use Rattle.t1_font.proofs.normal_fonts.NormalTexts.{normal_shorter, empty_stays, normal_clear_shell, normal_private_shell, normal_are_texts}

-- ---- a normalized font

words_raised : (n : ℕ) (es : List (ℕ × List ℕ)) (t : SubrsShell) → SubrWords es t → SubrWords es (raised n t)
words_raised n [] t h = h
words_raised n (e ∷ es) t h = h

-- Subrs still fit a shell that declares more
subrs_raised : (n : ℕ) (s : Shell) (o : Option SubrsShell) (m : SparseArray) → n ≤ count_limit → SubrsFit (normal_texts s) o m →
    SubrsFit (normal_shell n s) (option_map (raised n) o) m
subrs_raised n s None m le h = h
subrs_raised n s (Some t) m le h = record {
  declared = omega (arith, le, h.declared);
  below = λ i c e. omega (arith, h.below i c e);
  bodies = h.bodies;
  words = words_raised n (entries m) t h.words;
  closing = h.closing;
}

-- Subrs fit a shell whose texts are normalized
pub normal_fit : (s : Shell) (o : Option SubrsShell) (m : SparseArray) → SubrsFit s o m → SubrsFit (normal_texts s) o m
normal_fit s None m h = (h.0, empty_stays s.middle h.1)
normal_fit s (Some t) m h = h

-- a normalized font weighs no more
pub normal_light : (n : ℕ) (f : FontValue) → weight (normal n f) ≤ weight f
normal_light n f = omega (arith, normal_shorter f.shell)

-- a normalized font is a font
pub normal_is_font : (n : ℕ) (f : FontValue) → n ≤ count_limit → IsFont f → IsFont (normal n f)
normal_is_font n f le h =
    let g = h.glyphs in
    let clear = normal_clear_shell f.shell h.clear in
    let private = normal_private_shell f.shell h.private in
    record {
      clear = record {
        head_encoding = clear.head_encoding;
        head_eexec = clear.head_eexec;
        tail_apart = clear.tail_apart;
        tail_ends = clear.tail_ends;
      };
      private = record {
        iv = private.iv;
        no_subrs = private.no_subrs;
        no_chars = private.no_chars;
        middle_apart = private.middle_apart;
        middle_chars = private.middle_chars;
        middle_subrs = private.middle_subrs;
        tail_apart = private.tail_apart;
        tail_subrs = private.tail_subrs;
        tail_ends = private.tail_ends;
      };
      texts = let t = normal_are_texts f.shell h.texts in
          record { head = t.head; clear_tail = t.clear_tail; private = t.private; middle = t.middle; tail = t.tail };
      encoding = h.encoding;
      subrs = subrs_raised n f.shell f.shell.subrs f.subrs le (normal_fit f.shell f.shell.subrs f.subrs h.subrs);
      glyphs = record { rd = g.rd; def = g.def; names = g.names; bodies = g.bodies; notdef = g.notdef; few = g.few };
      light = omega (arith, normal_light n f, h.light);
    }

-- ---- stubs

abbrev stub_entries : List ℕ → List (ℕ × List ℕ)
stub_entries indices = map (λ i. (i, stub)) indices

none_either_way : {X : Type 0} (b : Bool) → ◌≡◌ {A = Option X} (cond b None None) None
none_either_way true = refl
none_either_way false = refl

-- an index below n has its stub, and any other none
find_below : (n i : ℕ) (indices : List ℕ) → find nat_cmp i (stub_entries (below_count n indices))
    ≡ cond (nat_lt i n) (find nat_cmp i (stub_entries indices)) None
find_below n i [] = sym (none_either_way (nat_lt i n))
find_below n i (j ∷ js) =
    let rest = find_below n i js in
    elim (is_or_not (eq_by_cmp nat_cmp i j)) [
      | inl e ↦ let same : i ≡ j = nat_cmp-IsAntisymmetric i j ((Equal-is (nat_cmp i j)).0 e) in elim (is_or_not (nat_lt j n)) [
        | inl t ↦ let low : nat_lt i n ≡ true = ap (λ k. nat_lt k n) same ∙ t in rw (t, low, e) refl
        | inr t ↦ let high : nat_lt i n ≡ false = ap (λ k. nat_lt k n) same ∙ t in rw t (rest ∙ rw high refl)
      ]
      | inr e ↦ elim (is_or_not (nat_lt j n)) [
        | inl t ↦ rw (t, e) rest
        | inr t ↦ rw (t, e) rest
      ]
    ]

-- the stubs below a count are those of a cut
pub stubs_below : (n : ℕ) (indices : List ℕ) → stubs_at (below_count n indices) ≡ retain_keys (stubs_at indices) (λ i. nat_lt i n)
stubs_below n indices = same_map nat_cmp_total nat_cmp-IsAntisymmetric _ _ (λ q.
    get-from_entries nat_cmp_total (stub_entries (below_count n indices)) q
    ∙ (find_below n q indices
    ∙ (ap (λ (x : Option (List ℕ)). cond (nat_lt q n) x None) (sym (get-from_entries nat_cmp_total (stub_entries indices) q))
    ∙ sym (get-retain nat_cmp_total nat_cmp-IsAntisymmetric (stubs_at indices) (λ i. nat_lt i n) q))))

stub_or_none : (i : ℕ) (indices : List ℕ) (c : List ℕ) → find nat_cmp i (stub_entries indices) ≡ Some c → c ≡ stub
stub_or_none i [] c e = Some_None (sym e)
stub_or_none i (j ∷ js) c e = elim (is_or_not (eq_by_cmp nat_cmp i j)) [
  | inl t ↦ let k : Some stub ≡ Some c = rw t at e in cc
  | inr t ↦ let k : find nat_cmp i (stub_entries js) ≡ Some c = rw t at e in stub_or_none i js c k
]

kept_so : (b : Bool) (o : Option (List ℕ)) (c : List ℕ) → cond b o None ≡ Some c → (b ≡ true) × (o ≡ Some c)
kept_so true o c e = (refl, e)
kept_so false o c e = Some_None (sym e)

-- what a stub of these is, and where
pub a_stub : (n : ℕ) (indices : List ℕ) (i : ℕ) (c : List ℕ) → get (stubs_at (below_count n indices)) i ≡ Some c → (i < n) × (c ≡ stub)
a_stub n indices i c e =
    let k = kept_so (nat_lt i n) (find nat_cmp i (stub_entries indices)) c
    (sym (find_below n i indices) ∙ (sym (get-from_entries nat_cmp_total (stub_entries (below_count n indices)) i) ∙ e)) in
    (ltb-true i n k.0, stub_or_none i indices c k.1)

-- ---- a font that is filled

some_words : (k : ℕ) (v : List ℕ) (es : List (ℕ × List ℕ)) (t : SubrsShell) → find nat_cmp k es ≡ Some v → IsWord 32 t.rd × IsPhrase true t.put → SubrWords es t
some_words k v [] t e h = Some_None (sym e)
some_words k v (f ∷ fs) t e h = h

stub_fits : (iv : ℕ) (c : List ℕ) → iv ≤ 255 → c ≡ stub → IsCharstring iv c
stub_fits iv c h e = subst (IsCharstring iv) (sym e) (record { short = omega (arith, h); bytes = (omega arith, tt) })

-- the Subrs of a filled font fit its shell
subrs_filled : (s : Shell) (t : SubrsShell) (m : SparseArray) (indices : List ℕ) → s.len_iv ≤ 255 → SubrsFit s (Some t) m →
    (es : List (ℕ × List ℕ)) → entries m ≡ es → SubrsFit s (Some t) (with_stubs (below_count t.declared indices) m es)
subrs_filled s t m indices iv h [] is = h
subrs_filled s t m indices iv h (e ∷ es) is =
    let n = stubs_at (below_count t.declared indices) in
    let there : get m e.0 ≡ Some e.1 = get-entries m e.0 ∙ (ap (find nat_cmp e.0) is ∙ find_first nat_cmp_total nat_cmp-IsAntisymmetric e es) in
    let still : find nat_cmp e.0 (entries (merged m n)) ≡ Some e.1 = sym (get-entries (merged m n) e.0)
    ∙ (get-merged nat_cmp_total nat_cmp-IsAntisymmetric m n e.0 ∙ ap (λ (x : Option (List ℕ)). joined x (get n e.0)) there) in
    record {
      declared = h.declared;
      below = merged_has nat_cmp_total nat_cmp-IsAntisymmetric (λ i c. i < t.declared) m n h.below (λ i c e. (a_stub t.declared indices i c e).0);
      bodies = merged_has nat_cmp_total nat_cmp-IsAntisymmetric (λ i c. IsCharstring s.len_iv c) m n h.bodies
          (λ i c e. stub_fits s.len_iv c iv (a_stub t.declared indices i c e).1);
      words = some_words e.0 e.1 (entries (merged m n)) t still (subst (λ (es : List (ℕ × List ℕ)). SubrWords es t) is h.words);
      closing = h.closing;
    }

table_filled : (s : Shell) (o : Option SubrsShell) (m : SparseArray) (indices : List ℕ) → s.len_iv ≤ 255 → SubrsFit s o m →
    SubrsFit s o (with_stubs (below_count (declared_count o) indices) m (entries m))
table_filled s None m indices iv h = subst (λ (es : List (ℕ × List ℕ)). SubrsFit s None (with_stubs (below_count 0 indices) m es)) (sym h.0) h
table_filled s (Some t) m indices iv h = subrs_filled s t m indices iv h (entries m) refl

-- a font that is filled is a font if it is within the weight limit
pub filled_is_font : (indices : List ℕ) (f : FontValue) → IsFont f → weight (filled indices f) ≤ weight_limit → IsFont (filled indices f)
filled_is_font indices f h light = record {
  clear = h.clear;
  private = h.private;
  texts = h.texts;
  encoding = h.encoding;
  subrs = table_filled f.shell f.shell.subrs f.subrs indices (iv_small f.shell.private f.shell.len_iv h.private.iv) h.subrs;
  glyphs = h.glyphs;
  light = light;
}
