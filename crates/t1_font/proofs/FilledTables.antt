-- Tables that are filled from others.
use Rattle.std.proofs.Common.{◌≡◌, ℕ, Bool, true, false, cond, ◌&&◌, List, [], ◌∷◌, map, length, Option, Some, None, is_some, T, refl, sym, ap, subst, ◌∙◌, option_map, unwrap_or, true≢false, Result}
use Rattle.std.proofs.Common.{Ok, Err, arith, rules, ◌<◌, ◌++◌}
use Rattle.std.specs.{Prelude.{filter, nat_lt}, Cmp.{nat_cmp_total, Equal-is}, List.Sorted.{IsSearchInRange, IsBinarySearchResult}, Result.{is_ok}, Ordering.{eq_by_cmp, nat_cmp, is_lt}}
use Rattle.std.specs.{FinMap.{is_sorted}, FinMap.Entries.{below_all}, declared.cmp.Ordering.{Ordering}, declared.cmp.Ordering.TheVariants.{Less, Equal, Greater}}
use Rattle.t1_join.{specs.TableMeaning.{Rises}, proofs.{Searches.{searched}, Sorted.{both_true}}}
use Rattle.t1_font.specs.{Filling.{are_below}, Normalizing.{stubs_at, below_count}, Maps.{merged}, Cut.{stub}, FontValue.{SparseArray}, Lent.{stub_at, filled_at}}
use Rattle.t1_font.proofs.{CutEntries.{entries-retain}, MapLemmas.{get-merged, joined}}
use Rattle.std.specs.FinMap as fin

module _ (own : SparseArray) where
  same_below : (k : ℕ) (es : List ℕ) → below_all nat_cmp k (map (filled_at own) es) ≡ below_all nat_cmp k (map stub_at es)
  same_below k [] = refl
  same_below k (e ∷ es) = λ i. is_lt (nat_cmp k e) && same_below k es i

  -- entries rise as stubs at the same indices
  pub same_rise : (es : List ℕ) → is_sorted nat_cmp (map (filled_at own) es) ≡ is_sorted nat_cmp (map stub_at es)
  same_rise [] = refl
  same_rise (e ∷ es) = λ i. same_below e es i && same_rise es i

-- ---- what is found

module _ (own : SparseArray) (q : ℕ) where
  -- an entry is found as the stub there
  find_filled : (es : List ℕ) → fin.find nat_cmp q (map (filled_at own) es) ≡ option_map (unwrap_or (fin.get own q)) (fin.find nat_cmp q (map stub_at es))
  find_filled [] = refl
  find_filled (e ∷ es) = elim (eq_by_cmp nat_cmp q e) as (λ b. eq_by_cmp nat_cmp q e ≡ b → cond b (Some (unwrap_or (fin.get own e) stub))
      (fin.find nat_cmp q (map (filled_at own) es)) ≡ option_map (unwrap_or (fin.get own q)) (cond b (Some stub) (fin.find nat_cmp q (map stub_at es)))) [
        | true ↦ λ t. ap (λ (k : ℕ). Some (unwrap_or (fin.get own k) stub)) (sym (fin.nat_cmp-IsAntisymmetric q e ((Equal-is (nat_cmp q e)).0 t)))
        | false ↦ λ t. find_filled es
      ] refl

over : (x y : Option (List ℕ)) → (is_some x ≡ true → is_some y ≡ true) → option_map (unwrap_or x) y ≡ joined x y
over None None h = refl
over None (Some d) h = refl
over (Some c) None h = absurd (true≢false (sym (h refl)))
over (Some c) (Some d) h = refl

module _ (others : List ℕ) (own : SparseArray) (rise : Rises nat_cmp (map stub_at others)) (all : (q : ℕ) → fin.contains_key own q ≡ true →
    fin.contains_key (fin.from_sorted {R = nat_cmp} (map stub_at others)) q ≡ true) where
  -- a table that is filled at the indices of a list, which has each of its own, is merged with the stubs there
  pub filled_is : fin.from_sorted {R = nat_cmp} (map (filled_at own) others) ≡ merged own (fin.from_sorted (map stub_at others))
  filled_is = fin.same_map nat_cmp_total fin.nat_cmp-IsAntisymmetric _ _ (λ q.
      fin.get-from_sorted nat_cmp (map (filled_at own) others) q (subst (λ (b : Bool). T b) (sym (same_rise own others)) rise)
      ∙ (find_filled own q others
      ∙ (ap (option_map (unwrap_or (fin.get own q))) (sym (fin.get-from_sorted nat_cmp (map stub_at others) q rise))
      ∙ (over (fin.get own q) (fin.get (fin.from_sorted (map stub_at others)) q) (all q)
      ∙ sym (get-merged nat_cmp_total fin.nat_cmp-IsAntisymmetric own (fin.from_sorted (map stub_at others)) q)))))

-- a search finds an index exactly if a list has it
pub among_is : (q : ℕ) (es : List ℕ) (r : Result ℕ ℕ) → Rises nat_cmp (map stub_at es) → IsSearchInRange r (length es) →
    IsBinarySearchResult (λ i. nat_cmp i q) es r
    → is_ok r ≡ fin.contains_key (fin.from_sorted {R = nat_cmp} (map stub_at es)) q
among_is q [] (Ok i) rise range at = absurd (omega (arith, range))
among_is q (e ∷ es) (Ok i) rise range at = ap is_some (sym (searched nat_cmp_total stub_at q (e ∷ es) (Ok i) rise range at e))
among_is q es (Err i) rise range at = ap is_some (sym (searched nat_cmp_total stub_at q es (Err i) rise range at))

-- ---- lists of indices that rise

same_keys_below : (k : ℕ) (es : List (ℕ × List ℕ)) → below_all nat_cmp k (map stub_at (map (λ e. e.0) es)) ≡ below_all nat_cmp k es
same_keys_below k [] = refl
same_keys_below k (e ∷ es) = λ i. is_lt (nat_cmp k e.0) && same_keys_below k es i

same_keys_rise : (es : List (ℕ × List ℕ)) → is_sorted nat_cmp (map stub_at (map (λ e. e.0) es)) ≡ is_sorted nat_cmp es
same_keys_rise [] = refl
same_keys_rise (e ∷ es) = λ i. same_keys_below e.0 es i && same_keys_rise es i

-- a number that is below all others is below the last of them
below_the_last : (i last : ℕ) (front : List ℕ) → T (below_all nat_cmp i (map stub_at (front ++ last ∷ []))) → i < last
below_the_last i last [] h = less (nat_cmp i last) refl (both_true _ _ h).0
  where
    less : (r : Ordering) → nat_cmp i last ≡ r → T (is_lt r) → i < last
    less Less is t = search rules
    less Equal is t = absurd t
    less Greater is t = absurd t
below_the_last i last (j ∷ front) h = below_the_last i last front (both_true _ _ h).1

-- numbers that rise are all below a count if the last one is
pub below_by_last : (n last : ℕ) (front : List ℕ) → Rises nat_cmp (map stub_at (front ++ last ∷ [])) → nat_lt last n ≡ are_below n (front ++ last ∷ [])
below_by_last n last [] rise = elim (nat_lt last n) as (λ b. b ≡ (b && true)) [ true ↦ refl | false ↦ refl ]
below_by_last n last (i ∷ front) rise =
    let less : i < last = below_the_last i last front (both_true _ _ rise).0 in
    with_first (nat_lt i n) (nat_lt last n) (λ t. grind (arith, less, t)) ∙ ap (λ b. nat_lt i n && b) (below_by_last n last front (both_true _ _ rise).1)
  where
    with_first : (a b : Bool) → (b ≡ true → a ≡ true) → b ≡ (a && b)
    with_first true b h = refl
    with_first false true h = absurd (true≢false (sym (h refl)))
    with_first false false h = refl

-- the keys of a map rise
pub keys_rise : (m : SparseArray) → Rises nat_cmp (map stub_at (fin.keys m))
keys_rise m = subst (λ (b : Bool). T b) (sym (same_keys_rise (fin.entries m))) (fin.entries_sorted m)

module _ (indices : List ℕ) (rise : Rises nat_cmp (map stub_at indices)) where
  -- the table of stubs at indices that rise
  pub sorted_stubs : fin.from_sorted {R = nat_cmp} (map stub_at indices) ≡ stubs_at indices
  sorted_stubs = fin.same_map nat_cmp_total fin.nat_cmp-IsAntisymmetric _ _
      (λ q. fin.get-from_sorted nat_cmp (map stub_at indices) q rise ∙ sym (fin.get-from_entries nat_cmp_total (map stub_at indices) q))

  filter_stubs : (n : ℕ) (js : List ℕ) → filter (λ (e : ℕ × List ℕ). nat_lt e.0 n) (map stub_at js) ≡ map stub_at (below_count n js)
  filter_stubs n [] = refl
  filter_stubs n (j ∷ js) = elim (nat_lt j n) as (λ b. cond b (stub_at j ∷ filter (λ (e : ℕ × List ℕ). nat_lt e.0 n) (map stub_at js))
      (filter (λ (e : ℕ × List ℕ). nat_lt e.0 n) (map stub_at js)) ≡ map stub_at (cond b (j ∷ below_count n js) (below_count n js))) [
        | true ↦ ap (λ (es : List (ℕ × List ℕ)). stub_at j ∷ es) (filter_stubs n js)
        | false ↦ filter_stubs n js
      ]

  -- those below a count are the entries of that table below it
  pub stubs_before : (n : ℕ) → map stub_at (below_count n indices) ≡ fin.entries (fin.retain_keys (stubs_at indices) (λ i. nat_lt i n))
  stubs_before n = sym (filter_stubs n indices)
      ∙ (ap (filter (λ (e : ℕ × List ℕ). nat_lt e.0 n)) (sym (fin.entries-from_sorted nat_cmp (map stub_at indices) rise) ∙ ap fin.entries sorted_stubs)
      ∙ sym (entries-retain nat_cmp_total fin.nat_cmp-IsAntisymmetric (stubs_at indices) (λ i. nat_lt i n)))
