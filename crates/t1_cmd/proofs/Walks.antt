-- Walks over numbers that meet each entry of a map, and over its keys.
use Rattle.std.proofs.Common.{◌≡◌, ℕ, ◌+◌, ◌≤◌, ◌<◌, Bool, true, false, cond, ◌&&◌, ltb, List, [], ◌∷◌, ◌++◌, Option, Some, None, refl, sym, ◌∙◌, ap, Ordering}
use Rattle.std.proofs.{Common.{Less, Equal, Greater, is_lt, is_eq, arith, append_assoc}, lemmas.Bool.{lt-ltb, le-ltb}, lemmas.List.{append-nil}}
use Rattle.std.proofs.lemmas.Grind.{flat_map-append}
use Rattle.std.specs.{List.{filter, flat_map, AllByRecursion}, Ordering.{nat_cmp}, Cmp.{nat_cmp_total, ranked}}
use Rattle.std.specs.FinMap.{FinMap, get, entries, entries_sorted, find, is_sorted, get-entries, nat_cmp-IsAntisymmetric}
use Rattle.std.specs.FinMap.Entries.{below_all}
use Rattle.t1_font.specs.FontValue.{Encoding, Word, Codes}
use Rattle.t1_font.specs.{FontModel.{name_at, word_of}, IsFont.{IsEncoding}}
use Rattle.t1_font.proofs.{MapLemmas.{T_true, entries_all}}
use Rattle.t1_cmd.specs.ListText.{line_at, code_line, encoding_lines}

-- the entries whose keys are below n
abbrev pub under : {X : Type 0} → ℕ → List (ℕ × X) → List (ℕ × X)
under n es = filter (λ e. ltb e.0 n) es

-- an entry for a key that has a value
abbrev pub entry_at : {X : Type 0} → ℕ → Option X → List (ℕ × X)
entry_at n None = []
entry_at n (Some x) = (n, x) ∷ []

both_so : (a b : Bool) → (a && b) ≡ true → (a ≡ true) × (b ≡ true)
both_so true b h = (refl, h)
both_so false b h = absurd cc

less_so : (r : Ordering) → is_lt r ≡ true → r ≡ Less
less_so Less h = refl
less_so Equal h = absurd cc
less_so Greater h = absurd cc

above_so : (x y : ℕ) → is_lt (nat_cmp x y) ≡ true → x < y
above_so x y h = ranked x y Less (sym (less_so (nat_cmp x y) h))

module _ {X : Type 0} where
  -- nothing is below a key that all keys are above
  none_under : (k n : ℕ) (es : List (ℕ × X)) → n ≤ k + 1 → below_all nat_cmp k es ≡ true → under n es ≡ []
  none_under k n [] l h = refl
  none_under k n (e ∷ es) l h =
      let b = both_so (is_lt (nat_cmp k e.0)) (below_all nat_cmp k es) h in
      let more : k < e.0 = above_so k e.0 b.0 in
      let not_under : ltb e.0 n ≡ false = le-ltb e.0 n (omega arith) in
      ap (λ t. cond t (e ∷ under n es) (under n es)) not_under ∙ none_under k n es l b.1

  -- one step further, by how n and the first key stand
  under_step : (n : ℕ) (e : ℕ × X) (es : List (ℕ × X)) (s t : Bool) (r : Ordering) → ltb e.0 (n + 1) ≡ s → ltb e.0 n ≡ t → nat_cmp n e.0 ≡ r
      → cond s (e ∷ under (n + 1) es) (under (n + 1) es) ≡ cond t (e ∷ under n es) (under n es) ++ entry_at n (cond (is_eq r) (Some e.1) (find nat_cmp n es))
      → under (n + 1) (e ∷ es) ≡ under n (e ∷ es) ++ entry_at n (find nat_cmp n (e ∷ es))
  under_step n e es s t r p q u m =
      ap (λ b. cond b (e ∷ under (n + 1) es) (under (n + 1) es)) p
      ∙ m
      ∙ (λ i. cond (sym q i) (e ∷ under n es) (under n es) ++ entry_at n (cond (is_eq (sym u i)) (Some e.1) (find nat_cmp n es)))

  -- the same behind one more entry, by how n and its key stand
  under_by : (n : ℕ) (e : ℕ × X) (es : List (ℕ × X)) → below_all nat_cmp e.0 es ≡ true
      → under (n + 1) es ≡ under n es ++ entry_at n (find nat_cmp n es) → (r : Ordering) → nat_cmp n e.0 ≡ r
      → under (n + 1) (e ∷ es) ≡ under n (e ∷ es) ++ entry_at n (find nat_cmp n (e ∷ es))
  under_by n e es above rest Less u =
      let l : n < e.0 = ranked n e.0 Less (sym u) in
      under_step n e es false false Less (le-ltb e.0 (n + 1) (omega arith)) (le-ltb e.0 n (omega arith)) u rest
  under_by n e es above rest Equal u =
      let l : n ≡ e.0 = ranked n e.0 Equal (sym u) in
      under_step n e es true false Equal (lt-ltb e.0 (n + 1) (omega arith)) (le-ltb e.0 n (omega arith)) u
      (ap (λ fs. e ∷ fs) (none_under e.0 (n + 1) es (omega arith) above)
      ∙ ap (λ k. (k, e.1) ∷ []) (sym l)
      ∙ sym (ap (λ (fs : List (ℕ × X)). fs ++ (n, e.1) ∷ []) (none_under e.0 n es (omega arith) above)))
  under_by n e es above rest Greater u =
      let l : e.0 < n = ranked n e.0 Greater (sym u) in
      under_step n e es true true Greater (lt-ltb e.0 (n + 1) (omega arith)) (lt-ltb e.0 n (omega arith)) u (ap (λ fs. e ∷ fs) rest)

  -- the entries below n + 1 are those below n and the one at n
  pub under_more : (n : ℕ) (es : List (ℕ × X)) → is_sorted nat_cmp es ≡ true → under (n + 1) es ≡ under n es ++ entry_at n (find nat_cmp n es)
  under_more n [] h = refl
  under_more n (e ∷ es) h =
      let parts = both_so (below_all nat_cmp e.0 es) (is_sorted nat_cmp es) h in
      under_by n e es parts.0 (under_more n es parts.1) (nat_cmp n e.0) refl

  all_under : (n : ℕ) (es : List (ℕ × X)) → AllByRecursion (λ e. e.0 < n) es → under n es ≡ es
  all_under n [] h = refl
  all_under n (e ∷ es) h = ap (λ t. cond t (e ∷ under n es) (under n es)) (lt-ltb e.0 n h.0) ∙ ap (λ fs. e ∷ fs) (all_under n es h.1)

  none_below_zero : (es : List (ℕ × X)) → under 0 es ≡ []
  none_below_zero [] = refl
  none_below_zero (e ∷ es) = ap (λ t. cond t (e ∷ under 0 es) (under 0 es)) (le-ltb e.0 0 (omega arith)) ∙ none_below_zero es

module _ (m : FinMap nat_cmp (List ℕ)) where
  sorted : is_sorted nat_cmp (entries m) ≡ true
  sorted = T_true (is_sorted nat_cmp (entries m)) (entries_sorted m)

  -- the same of the entries of a map
  pub entries_more : (n : ℕ) → under (n + 1) (entries m) ≡ under n (entries m) ++ entry_at n (get m n)
  entries_more n = under_more n (entries m) sorted ∙ ap (λ o. under n (entries m) ++ entry_at n o) (sym (get-entries m n))

  -- no entry is below 0
  pub entries_none : under 0 (entries m) ≡ []
  entries_none = none_below_zero (entries m)

  -- if all keys are below n, the entries below n are all
  pub entries_under : (n : ℕ) → ((k : ℕ) (v : List ℕ) → get m k ≡ Some v → k < n) → under n (entries m) ≡ entries m
  entries_under n h = all_under n (entries m) (entries_all nat_cmp_total nat_cmp-IsAntisymmetric (λ k v. k < n) m h)

  module _ (line : ℕ → List ℕ → List ℕ) where
    -- the lines of the entries whose keys are below n
    abbrev pub lines_under : ℕ → List ℕ
    lines_under n = flat_map (λ e. line e.0 e.1) (under n (entries m))

    one_line : (n : ℕ) (o : Option (List ℕ)) → flat_map (λ e. line e.0 e.1) (entry_at n o) ≡ line_at line n o
    one_line n None = refl
    one_line n (Some v) = append-nil (line n v)

    -- no line is below 0
    pub lines_none : lines_under 0 ≡ []
    lines_none = ap (flat_map (λ e. line e.0 e.1)) entries_none

    -- the lines below n + 1 are those below n and the one of n
    pub lines_more : (n : ℕ) → lines_under (n + 1) ≡ lines_under n ++ line_at line n (get m n)
    lines_more n =
        ap (flat_map (λ e. line e.0 e.1)) (entries_more n)
        ∙ flat_map-append (λ e. line e.0 e.1) (under n (entries m)) (entry_at n (get m n))
        ∙ ap (λ (t : List ℕ). lines_under n ++ t) (one_line n (get m n))

    -- if all keys are below n, the lines below n are all
    pub lines_all : (n : ℕ) → ((k : ℕ) (v : List ℕ) → get m k ≡ Some v → k < n) → lines_under n ≡ flat_map (λ e. line e.0 e.1) (entries m)
    lines_all n h = ap (flat_map (λ e. line e.0 e.1)) (entries_under n h)

-- ---- the codes of a table

-- the lines of the codes below n
abbrev pub codes_under : Encoding → ℕ → List ℕ
codes_under (Word w) n = []
codes_under (Codes m) n = lines_under m code_line n

-- no code is below 0
pub codes_none : (e : Encoding) → codes_under e 0 ≡ []
codes_none (Word w) = refl
codes_none (Codes m) = lines_none m code_line

-- the lines of one code more
pub codes_more : (e : Encoding) (n : ℕ) → codes_under e (n + 1) ≡ codes_under e n ++ line_at code_line n (name_at e n)
codes_more (Word w) n = refl
codes_more (Codes m) n = lines_more m code_line n

-- at 256 all codes have their lines
pub codes_all : (e : Encoding) → IsEncoding e → word_of e ≡ None → (n : ℕ) → 256 ≤ n → codes_under e n ≡ encoding_lines e
codes_all (Word w) is h n l = absurd cc
codes_all (Codes m) is h n l = lines_all m code_line n (λ k v e. let few : k ≤ 255 = (is k v e).code in omega arith)

-- ---- texts that grow

-- a text without more stays
pub nothing_more : (text more : List ℕ) → more ≡ [] → text ≡ text ++ more
nothing_more text more h = sym (ap (λ (t : List ℕ). text ++ t) h ∙ append-nil text)

-- a line that is added to a text is added to what was written since its start
pub line_more : (start before after now line next : List ℕ) → before ≡ start ++ now → after ≡ before ++ line → next ≡ now ++ line → after ≡ start ++ next
line_more start before after now line next h k m = k ∙ ap (λ (t : List ℕ). t ++ line) h ∙ append_assoc start now line ∙ ap (λ (t : List ℕ). start ++ t) (sym m)
