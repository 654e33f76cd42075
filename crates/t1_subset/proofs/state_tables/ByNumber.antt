-- Tables that are filled by number, from 0 on.
use Rattle.std.proofs.lemmas.Bool.Decides.{nat_tests}
use Rattle.std.proofs.Common.{◌≡◌, ℕ, ◌<◌, ◌≤◌, ◌+◌, Bool, true, false, cond, List, [], ◌∷◌, map, refl, sym, ◌∙◌, ap, Option, Some, None, is_some, nat_cmp, nat_lt, arith, Less}
use Rattle.std.proofs.lemmas.Bool.{ltb-true, ltb-false}
use Rattle.std.specs.{FinMap.Entries.{below_all}, Cmp.{nat_cmp_total}, FinSet.{nat_cmp-IsAntisymmetric}}
use Rattle.t1_font.{proofs.MapLemmas.{T_true, find_first, Some_None}, specs.FontValue.{FontValue, Encoding, Word, Codes, SparseArray}}
use Rattle.t1_font.specs.MadeTables.{numbered}
use Rattle.t1_algebra.proofs.{Words.{list_any, eq_by_cmp, first_so, second_so}, Searching.{below_later}, Sets.{cases}, Tables.{get-numbered, numbered-empty, numbered-insert}}
use Rattle.t1_algebra.specs.{Profile.{profile}, States.{code_state, is_called, state_of_entry}, StateTables.{code_states}}
use Rattle.t1_join.specs.{Meaning.{of_number}, TableMeaning.{TableMeaning}}
use Rattle.t1_subset.specs.Differences.{with_state, entry_state}
use Rattle.std.specs.FinMap as maps

-- the table has what x gives for the numbers below n, and nothing else
pub record HasBelow (t : TableMeaning) (x : ℕ → Option (List ℕ)) (n : ℕ) : Type 0 where
  pub map : SparseArray
  pub table : t ≡ numbered map
  pub shown : (i : ℕ) → maps.get map i ≡ cond (nat_lt i n) (x i) None

-- numbers that are less compare so
less_is : (a b : ℕ) → nat_cmp a b ≡ Less → a < b
less_is a b h = grind (arith, nat_tests, h)

apart : (i k : ℕ) → i < k → eq_by_cmp nat_cmp i k ≡ false
apart i k l = grind (arith, nat_tests, l)

apart_above : (i k : ℕ) → k < i → eq_by_cmp nat_cmp i k ≡ false
apart_above i k l = grind (arith, nat_tests, l)

no_less : (i n : ℕ) → n ≤ i → nat_lt i n ≡ false
no_less i n l = grind (arith, nat_tests, l)

module _ (t : TableMeaning) (x : ℕ → Option (List ℕ)) where
  -- an empty table has what x gives below 0
  pub has_none : t ≡ maps.empty → HasBelow t x 0
  has_none e =
      record { map = maps.empty; table = e ∙ numbered-empty; shown = λ i. let none = maps.get-empty {X = List ℕ} nat_cmp i in grind (arith, nat_tests, none) }

  -- if x gives nothing from n on, the table has all of it
  pub has_all : (n : ℕ) → HasBelow t x n → ((i : ℕ) → n ≤ i → x i ≡ None) → (m : SparseArray) → ((i : ℕ) → maps.get m i ≡ x i) → t ≡ numbered m
  has_all n h far m is =
      h.table ∙ ap numbered (maps.same_map nat_cmp_total nat_cmp-IsAntisymmetric h.map m (λ i. grind (arith, nat_tests, h.shown i, is i, far i)))

module _ (t : TableMeaning) (x : ℕ → Option (List ℕ)) (n : ℕ) (h : HasBelow t x n) where
  -- the table has what x gives for each number below n
  pub has_at : (i : ℕ) → i < n → maps.get t (of_number i) ≡ x i
  has_at i l =
      let is : maps.get h.map i ≡ x i = grind (arith, nat_tests, h.shown i) in
      ap (λ (t : TableMeaning). maps.get t (of_number i)) h.table ∙ get-numbered h.map (of_number i) ∙ is

  -- and nothing for a number from n on
  pub has_no : (i : ℕ) → n ≤ i → maps.get t (of_number i) ≡ None
  has_no i l =
      let none : maps.get h.map i ≡ None = grind (arith, nat_tests, h.shown i) in
      ap (λ (t : TableMeaning). maps.get t (of_number i)) h.table ∙ get-numbered h.map (of_number i) ∙ none

  -- a table that is filled below n is filled below n + 1 once the value of n is put
  pub has_next : (u : TableMeaning) (s : Option (List ℕ)) → u ≡ with_state t (of_number n) s → s ≡ x n → HasBelow u x (n + 1)
  has_next u None is e = record { map = h.map; table = is ∙ h.table; shown = λ i. grind (arith, nat_tests, h.shown i, e) }
  has_next u (Some v) is e =
      record {
        map = maps.insert h.map n v;
        table = is ∙ ap (λ (t : TableMeaning). maps.insert t (of_number n) v) h.table ∙ numbered-insert h.map n v;
        shown = λ i. grind (arith, nat_tests, h.shown i, e, maps.get-insert nat_cmp_total h.map n v i);
      }

-- ---- entries, upwards by number

-- the table has what x gives for the numbers before the entries of a map that are left
pub record HasBefore (t : TableMeaning) (x : ℕ → Option (List ℕ)) (m : SparseArray) (left : List (ℕ × List ℕ)) : Type 0 where
  pub below : ℕ
  pub table : HasBelow t x below
  pub sorted : maps.is_sorted nat_cmp left ≡ true
  pub found : (i : ℕ) → maps.find nat_cmp i left ≡ cond (nat_lt i below) None (maps.get m i)

-- a number that is found has an entry
found_listed : (i : ℕ) (c : List ℕ) (es : List (ℕ × List ℕ)) → maps.find nat_cmp i es ≡ Some c → list_any (eq_by_cmp nat_cmp i) (map (λ e. e.0) es) ≡ true
found_listed i c [] h = absurd cc
found_listed i c (e ∷ es) h = grind (cases, h, found_listed i c es)

module _ (t : TableMeaning) (x : ℕ → Option (List ℕ)) (m : SparseArray) where
  -- before the first entry the table is empty
  pub before_all : (left : List (ℕ × List ℕ)) → t ≡ maps.empty → left ≡ maps.entries m → HasBefore t x m left
  before_all left e is = record {
    below = 0;
    table = has_none t x e;
    sorted = ap (maps.is_sorted nat_cmp) is ∙ T_true (maps.is_sorted nat_cmp (maps.entries m)) (maps.entries_sorted m);
    found = λ i. ap (maps.find nat_cmp i) is ∙ (sym (maps.get-entries m i) ∙ grind (arith, nat_tests));
  }

  module _ (none : (i : ℕ) → maps.get m i ≡ None → x i ≡ None) where
    -- behind the last entry it has all
    pub behind_all : (left : List (ℕ × List ℕ)) → left ≡ [] → HasBefore t x m left → (k : SparseArray) → ((i : ℕ) → maps.get k i ≡ x i) → t ≡ numbered k
    behind_all left e h k is = has_all t x h.below h.table
        (λ i l. none i (sym (grind (arith, nat_tests, l, h.found i)) ∙ ap (maps.find nat_cmp i) e)) k is

    module _ (e : ℕ × List ℕ) (rest left : List (ℕ × List ℕ)) (is : left ≡ e ∷ rest) (h : HasBefore t x m left) where
      found_here : (i : ℕ) → maps.find nat_cmp i (e ∷ rest) ≡ cond (nat_lt i h.below) None (maps.get m i)
      found_here i = ap (maps.find nat_cmp i) (sym is) ∙ h.found i

      sorted_there : maps.is_sorted nat_cmp (e ∷ rest) ≡ true
      sorted_there = ap (maps.is_sorted nat_cmp) (sym is) ∙ h.sorted

      -- what is left stands above the first of it
      later : (i : ℕ) (c : List ℕ) → maps.find nat_cmp i rest ≡ Some c → e.0 < i
      later i c l = less_is e.0 i (below_later nat_cmp_total nat_cmp-IsAntisymmetric (λ _. true) e.0 i rest
          (first_so (below_all nat_cmp e.0 rest) (maps.is_sorted nat_cmp rest) sorted_there) (found_listed i c rest l))

      reached : h.below ≤ e.0
      reached = by (nat_lt e.0 h.below) refl
        where
          by : (b : Bool) → nat_lt e.0 h.below ≡ b → h.below ≤ e.0
          by true l =
              Some_None (sym (find_first nat_cmp_total nat_cmp-IsAntisymmetric e rest) ∙ (found_here e.0 ∙ ap (λ b. cond b None (maps.get m e.0)) l))
          by false l = ltb-false e.0 h.below l

      -- it is an entry of the map
      pub entry_there : maps.get m e.0 ≡ Some e.1
      entry_there = sym (ap (λ b. cond b None (maps.get m e.0)) (no_less e.0 h.below reached))
          ∙ (sym (found_here e.0) ∙ find_first nat_cmp_total nat_cmp-IsAntisymmetric e rest)

      -- the numbers before it have no entry
      skipped : (i : ℕ) → h.below ≤ i → i < e.0 → x i ≡ None
      skipped i l lt = none i (sym (ap (λ b. cond b None (maps.get m i)) (no_less i h.below l)) ∙ (sym (found_here i) ∙ by (maps.find nat_cmp i rest) refl))
        where
          by : (o : Option (List ℕ)) → maps.find nat_cmp i rest ≡ o → maps.find nat_cmp i (e ∷ rest) ≡ None
          by None k = ap (λ b. cond b (Some e.1) (maps.find nat_cmp i rest)) (apart i e.0 lt) ∙ k
          by (Some c) k = absurd (omega (arith, later i c k, lt))

      up_to : HasBelow t x e.0
      up_to = record { map = h.table.map; table = h.table.table; shown = λ i. grind (arith, nat_tests, h.table.shown i, skipped i, reached) }

      -- once the state of the entry is put, the table has what x gives before the others
      pub before_next : (u : TableMeaning) (s : Option (List ℕ)) → u ≡ with_state t (of_number e.0) s → s ≡ x e.0 → HasBefore u x m rest
      before_next u s put state = record {
        below = e.0 + 1;
        table = has_next t x e.0 up_to u s put state;
        sorted = second_so (below_all nat_cmp e.0 rest) (maps.is_sorted nat_cmp rest) sorted_there;
        found = λ i. by i (maps.find nat_cmp i rest) refl (nat_lt i (e.0 + 1)) refl;
      }
        where
          by : (i : ℕ) (o : Option (List ℕ)) → maps.find nat_cmp i rest ≡ o → (b : Bool) → nat_lt i (e.0 + 1) ≡ b →
              maps.find nat_cmp i rest ≡ cond b None (maps.get m i)
          by i None k true l = k
          by i (Some c) k true l = absurd (omega (arith, later i c k, ltb-true i (e.0 + 1) l))
          by i o k false l =
              let above : e.0 < i = omega (arith, ltb-false i (e.0 + 1) l) in
              sym (ap (λ b. cond b (Some e.1) (maps.find nat_cmp i rest)) (apart_above i e.0 above))
              ∙ (found_here i ∙ ap (λ b. cond b None (maps.get m i)) (no_less i h.below (omega (arith, reached, above))))

-- ---- codes and Subrs

-- a table that is filled with all names of codes has the states of the codes
pub codes_filled : (e : Encoding) (t : TableMeaning) (n : ℕ) → HasBelow t (code_state e) n → ((i : ℕ) → n ≤ i → code_state e i ≡ None) → t ≡ code_states e
codes_filled (Word w) t n h far = has_all t (code_state (Word w)) n h far maps.empty (maps.get-empty nat_cmp) ∙ sym numbered-empty
codes_filled (Codes s) t n h far = has_all t (code_state (Codes s)) n h far s (λ i. refl)

-- an entry, with whether it is called, gives its state
pub entry_is : (f : FontValue) (i : ℕ) (x y : Option (List ℕ)) (b : Bool) → x ≡ y → (is_some y ≡ true → b ≡ is_called profile f i) →
    entry_state x b ≡ state_of_entry profile f i y
entry_is f i x y b e h = grind arith
