-- What makes tables a font, in the shell of one.
use Rattle.std.proofs.Common.{◌≡◌, ◌≤◌, ◌<◌, ℕ, suc, Bool, true, false, cond, not, true≢false, List, [], ◌∷◌, length, Option, Some, None, is_some}
use Rattle.std.proofs.{Common.{sym, ap, subst, refl, ◌∙◌, arith, inl, inr}, lemmas.List.Sums.{take_while-cons}}
use Rattle.std.proofs.{Math.Bool.{beq}, lemmas.{Bool.{eqb-true}, Cmp.{nat_list_cmp_total}}}
use Rattle.std.specs.{Prelude.{take_while, ◌==◌}, List.{AllByRecursion}, Option.{option_map}, Cmp.{nat_cmp_total}}
use Rattle.std.specs.FinMap.{nat_cmp-IsAntisymmetric, slice_cmp-IsAntisymmetric, entries, contains_key, len}
use Rattle.t1_bytes.specs.Laws.{AreBytes}
use Rattle.t1_font.specs.FontValue.{FontValue, Shell, SubrsShell, SparseArray, Encoding, Word, Codes, declared_count, notdef, count_limit, weight, weight_limit}
use Rattle.t1_font.specs.FontModel.{word_of, encoding_by, of_subrs}
use Rattle.t1_font.specs.IsFont.{IsFont, IsClearShell, IsPrivateShell, AreTexts, IsEncoding, IsCode, SubrWords, SubrsFit}
use Rattle.t1_text.specs.{FontWords.{IsWord, IsPhrase, IsCharstring}, Words.{is_regular, word_limit, name_limit}}
use Rattle.t1_font.specs.{FontShells.{IsShellOfFont, CodesFit}, Joins.{IsOverLimits}, Filling.{has_none}}
use Rattle.t1_font.proofs.{MapLemmas.{is_or_not, Some_same, Some_None, entries_all}, EachEntry.{each_value}}

-- ---- names

module _ {X : Type 0} (p : X → Bool) where
  next_front : (x : X) (xs : List X) (b : Bool) → p x ≡ b → length (take_while p (x ∷ xs)) ≡ length (cond b (x ∷ take_while p xs) [])
  next_front x xs b is = ap length (take_while-cons p x xs ∙ ap (λ t. cond t (x ∷ take_while p xs) []) is)

  -- if all come first, each passes
  all_pass : (xs : List X) → length (take_while p xs) ≡ length xs → AllByRecursion (λ x. p x ≡ true) xs
  all_pass [] h = tt
  all_pass (x ∷ xs) h = elim (is_or_not (p x)) as (λ _. AllByRecursion (λ y. p y ≡ true) (x ∷ xs)) [
    | inl t ↦ (t, all_pass xs (omega (arith, sym (next_front x xs true t) ∙ h)))
    | inr f ↦ absurd (omega (arith, sym (next_front x xs false f) ∙ h))
  ]

  -- if each passes, all come first
  all_first : (xs : List X) → AllByRecursion (λ x. p x ≡ true) xs → length (take_while p xs) ≡ length xs
  all_first [] h = refl
  all_first (x ∷ xs) h = next_front x xs true h.0 ∙ ap suc (all_first xs h.1)

-- a name, by its length and the number of regular bytes at its front
pub name_so : (name : List ℕ) (front : ℕ) → front ≡ length (take_while is_regular name) → front ≡ length name → 1 ≤ length name → length name ≤ name_limit →
    AreBytes name → IsWord name_limit name
name_so name front is same some few bytes = record { regular = all_pass is_regular name (sym is ∙ same); some = some; few = few; bytes = bytes }

pub name_front : (name : List ℕ) (front : ℕ) → front ≡ length (take_while is_regular name) → IsWord name_limit name → front ≡ length name
name_front name front is w = is ∙ all_first is_regular name w.regular

pub some_bytes : (name : List ℕ) → (length name == 0) ≡ false → 1 ≤ length name
some_bytes [] h = absurd (true≢false h)
some_bytes (b ∷ bs) h = omega arith

-- ---- Subrs

abbrev IsSubr : ℕ → ℕ → ℕ → List ℕ → Type 0
IsSubr declared iv i c = (i < declared) × IsCharstring iv c

-- the kept words of Subrs are there where Subrs are
words_of : (old new : List (ℕ × List ℕ)) (t : SubrsShell) → SubrWords old t → has_none new ≡ (length t.rd == 0) → SubrWords new t
words_of [] [] t w same = w
words_of [] (e ∷ new) t w same = absurd (true≢false (sym (ap (λ (r : List ℕ). length r == 0) w.0) ∙ sym same))
words_of (d ∷ old) [] t w same =
    let none : length t.rd ≡ 0 = eqb-true (length t.rd) 0 (sym same) in absurd (omega (arith, w.0.some, none))
words_of (d ∷ old) (e ∷ new) t w same = w

-- Subrs that fit the shell of a font with others
pub subrs_so : (s : Shell) (o : Option SubrsShell) (old new : SparseArray) → is_some o ≡ true → SubrsFit s o old →
    has_none (entries new) ≡ (length (of_subrs (λ t. t.rd) o) == 0) →
    AllByRecursion (λ e. IsSubr (declared_count o) s.len_iv e.0 e.1) (entries new) → SubrsFit s o new
subrs_so s None old new some fit same all = absurd (true≢false (sym some))
subrs_so s (Some t) old new some fit same all = record {
  declared = fit.declared;
  below = λ i c is. (each_value nat_cmp-IsAntisymmetric (IsSubr t.declared s.len_iv) new all i c is).0;
  bodies = λ i c is. (each_value nat_cmp-IsAntisymmetric (IsSubr t.declared s.len_iv) new all i c is).1;
  words = words_of (entries old) (entries new) t fit.words same;
  closing = fit.closing;
}

-- each Subr of a font
pub subrs_are : (s : Shell) (o : Option SubrsShell) (m : SparseArray) → SubrsFit s o m →
    AllByRecursion (λ e. IsSubr (declared_count o) s.len_iv e.0 e.1) (entries m)
subrs_are s None m fit = subst (AllByRecursion (λ e. IsSubr 0 s.len_iv e.0 e.1)) (sym fit.0) tt
subrs_are s (Some t) m fit = entries_all nat_cmp_total nat_cmp-IsAntisymmetric (IsSubr t.declared s.len_iv) m (λ i c is. (fit.below i c is, fit.bodies i c is))

no_entries : (es : List (ℕ × List ℕ)) → es ≡ [] → has_none es ≡ true
no_entries es is = ap has_none is

empty_words : (es : List (ℕ × List ℕ)) (t : SubrsShell) → SubrWords es t → has_none es ≡ (length t.rd == 0)
empty_words [] t w = sym (ap (λ (r : List ℕ). length r == 0) w.0)
empty_words (e ∷ es) t w = elim (is_or_not (length t.rd == 0)) as (λ _. false ≡ (length t.rd == 0)) [
  | inl none ↦ let zero_long : length t.rd ≡ 0 = eqb-true (length t.rd) 0 none in absurd (omega (arith, w.0.some, zero_long))
  | inr some ↦ sym some
]

-- they are there where their words are
pub subrs_same : (s : Shell) (o : Option SubrsShell) (m : SparseArray) → is_some o ≡ true → SubrsFit s o m →
    has_none (entries m) ≡ (length (of_subrs (λ t. t.rd) o) == 0)
subrs_same s None m some fit = absurd (true≢false (sym some))
subrs_same s (Some t) m some fit = empty_words (entries m) t fit.words

-- ---- the Encoding

word_so : (e : Encoding) (w : List ℕ) → word_of e ≡ Some w → IsEncoding e → IsWord word_limit w
word_so (Word v) w is h = subst (IsWord word_limit) (Some_same is) h
word_so (Codes m) w is h = Some_None (sym is)

encoding_so : (e own : Encoding) → IsEncoding own → word_of own ≡ word_of e → CodesFit e → IsEncoding e
encoding_so (Word w) own h same fit = word_so own w same h
encoding_so (Codes m) own h same fit = each_value nat_cmp-IsAntisymmetric IsCode m fit

pub codes_fit : (e : Encoding) → IsEncoding e → CodesFit e
codes_fit (Word w) h = tt
codes_fit (Codes m) h = entries_all nat_cmp_total nat_cmp-IsAntisymmetric IsCode m h

-- ---- fonts

abbrev IsGlyph : ℕ → List ℕ → List ℕ → Type 0
IsGlyph iv n c = IsWord name_limit n × IsCharstring iv c

-- tables that fit the shell of a font make one
pub font_so : (f : FontValue) → IsShellOfFont f.shell (word_of f.encoding) → CodesFit f.encoding → SubrsFit f.shell f.shell.subrs f.subrs →
    AllByRecursion (λ e. IsGlyph f.shell.len_iv e.0 e.1) (entries f.glyphs) → contains_key f.glyphs notdef ≡ true → len f.glyphs ≤ count_limit →
    weight f ≤ weight_limit → IsFont f
font_so f of codes subrs glyphs has few light =
    let own = of.1 in
    let shell = of.2 in
    let keys = slice_cmp-IsAntisymmetric nat_cmp-IsAntisymmetric in
    record {
      clear = subst IsClearShell shell own.clear;
      private = subst IsPrivateShell shell own.private;
      texts = subst AreTexts shell own.texts;
      encoding = encoding_so f.encoding of.0.encoding own.encoding of.3 codes;
      subrs = subrs;
      glyphs = record {
        rd = subst (λ (s : Shell). IsWord word_limit s.glyphs_rd) shell own.glyphs.rd;
        def = subst (λ (s : Shell). IsPhrase true s.glyphs_def) shell own.glyphs.def;
        names = λ n c is. (each_value keys (IsGlyph f.shell.len_iv) f.glyphs glyphs n c is).0;
        bodies = λ n c is. (each_value keys (IsGlyph f.shell.len_iv) f.glyphs glyphs n c is).1;
        notdef = has;
        few = few;
      };
      light = light;
    }

-- each glyph of a font
pub glyphs_are : (f : FontValue) → IsFont f → AllByRecursion (λ e. IsGlyph f.shell.len_iv e.0 e.1) (entries f.glyphs)
glyphs_are f is = entries_all nat_list_cmp_total (slice_cmp-IsAntisymmetric nat_cmp-IsAntisymmetric) (IsGlyph f.shell.len_iv) f.glyphs
    (λ n c at. (is.glyphs.names n c at, is.glyphs.bodies n c at))

-- the word of an Encoding that is this word, or else a table
pub word_by : (w : Option (List ℕ)) (codes : SparseArray) → word_of (encoding_by w codes) ≡ w
word_by None codes = refl
word_by (Some w) codes = refl

-- ---- answers

-- what is over the limits is no font
pub not_over : (b : Bool) (f : FontValue) → (b ≡ true → IsOverLimits f) → IsFont f → not b ≡ true
not_over true f over is = elim (over refl) as (λ _. false ≡ true) [
  | inl many ↦ absurd (omega (arith, many, is.glyphs.few))
  | inr heavy ↦ absurd (omega (arith, heavy, is.light))
]
not_over false f over is = refl

pub none_of_both : {A : Type 0} (b : Bool) → b ≡ false → (A → b ≡ true) → (false ≡ true → A) × (A → false ≡ true)
none_of_both b none some = (λ h. absurd (true≢false (sym h)), λ a. absurd (true≢false (sym (some a) ∙ none)))

pub not_so : (b : Bool) → not b ≡ true → b ≡ false
not_so true h = sym h
not_so false h = refl

pub alike : (a b : Bool) → not (beq a b) ≡ false → a ≡ b
alike true true h = refl
alike true false h = absurd (true≢false h)
alike false true h = absurd (true≢false h)
alike false false h = refl

pub mapped_some : {A B : Type 0} (f : A → B) (o : Option A) → is_some (option_map f o) ≡ is_some o
mapped_some f None = refl
mapped_some f (Some x) = refl
