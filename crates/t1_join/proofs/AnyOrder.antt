-- Entries that were sorted, and the table of them in the order that they had.
use Rattle.std.proofs.Common.{◌≡◌, ◌<◌, refl, sym, ap, ◌∙◌, ◌+◌, ℕ, suc, zero, add-one, length, arith, Bool, true, false, cond, T, List, [], ◌∷◌, Option, None, Some, get_or}
use Rattle.std.proofs.{lemmas.Cmp.{nat_list_cmp_total, eq_by_cmp_equiv}, lemmas.List.{length-map}, lemmas.List.Sorted.{IsPermutation-sym, IsPermutation-map, Contains-permutation}}
use Rattle.std.proofs.{lemmas.Map.Keys.{IsDistinct-from_sorted, IsDistinct-IsPermutation, IsDistinct-head, IsDistinct-tail, sorted_from_all_adjacent}, lemmas.Map.Entries.{length-keys_of}}
use Rattle.std.proofs.{Math.ListN.{get_or-map}, lemmas.Map.Views.{Contains-from_lookup, lookup-from_Contains}}
use Rattle.std.specs.{declared.cmp.Ordering.{Ordering}, declared.cmp.Ordering.TheVariants.{Less, Equal, Greater}, Cmp.{IsTotalOrder, IsEquivalence}}
use Rattle.std.specs.{List.{AllByRecursion, IsDistinct, IsAllAdjacentAnswer}, List.Sorted.{IsPermutation, IsSortedBy, IsStrictlySortedBy}, Map.{keys_of, lookup}}
use Rattle.std.specs.{Ordering.{eq_by_cmp, is_eq, is_lt, ordering_reverse}, FinMap.Entries.{below_all}}
use Rattle.t1_join.specs.{Meaning.{Meaning, meaning_cmp}, TableMeaning.{entry_meanings, pair_meaning, Rises}, TableLaws.{same_table}, Unsorted.{KeysDiffer, IsTableOf}}
use Rattle.t1_join.proofs.{Sorted.{both_true, lt_is}, TreeEntries.{is_eq-Equal}, EntryLemmas.{same_by_cmp}}
use Rattle.std.specs.FinMap as fin

below_keys : {K X : Type 0} (R : K → K → Ordering) (k : K) (es : List (K × X)) → T (below_all R k es) → AllByRecursion (λ y. R k y ≡ Less) (keys_of es)
below_keys R k [] h = tt
below_keys R k (e ∷ es) h = (lt_is _ (both_true _ _ h).0, below_keys R k es (both_true _ _ h).1)

-- keys that rise, as a list
rising_keys : {K X : Type 0} (R : K → K → Ordering) (es : List (K × X)) → Rises R es → IsStrictlySortedBy R (keys_of es)
unfolding IsStrictlySortedBy
rising_keys R [] h = tt
rising_keys R (e ∷ es) h = (below_keys R e.0 es (both_true _ _ h).0, rising_keys R es (both_true _ _ h).1)

find_is : (q : Meaning) (es : List (Meaning × Meaning)) → fin.find meaning_cmp q es ≡ lookup (eq_by_cmp meaning_cmp q) es
find_is q [] = refl
find_is q (e ∷ es) = ap (cond (eq_by_cmp meaning_cmp q e.0) (Some e.1)) (find_is q es)

laws : IsEquivalence (eq_by_cmp meaning_cmp)
laws = eq_by_cmp_equiv nat_list_cmp_total

one_key : (x y : Meaning) → eq_by_cmp meaning_cmp x y ≡ true → x ≡ y
one_key x y h = same_by_cmp x y (is_eq-Equal (meaning_cmp x y) h)

-- entries whose keys differ still do when they change places
pub still_apart : (xs ys : List (Meaning × Meaning)) → IsPermutation xs ys → KeysDiffer xs → KeysDiffer ys
still_apart xs ys moved = IsDistinct-IsPermutation (eq_by_cmp meaning_cmp) laws.symm (keys_of xs) (keys_of ys) (IsPermutation-map (λ e. e.0) xs ys moved)

-- entries whose keys differ are found in any order
module _ (xs ys : List (Meaning × Meaning)) (moved : IsPermutation xs ys) (apart : KeysDiffer xs) (still : KeysDiffer ys) where
  found_again : (q v : Meaning) → lookup (eq_by_cmp meaning_cmp q) xs ≡ Some v → lookup (eq_by_cmp meaning_cmp q) ys ≡ Some v
  found_again q v h = lookup-from_Contains laws q v ys still (Contains-permutation xs ys (q, v) moved (Contains-from_lookup one_key q v xs h))

  found_before : (q v : Meaning) → lookup (eq_by_cmp meaning_cmp q) ys ≡ Some v → lookup (eq_by_cmp meaning_cmp q) xs ≡ Some v
  found_before q v h =
      lookup-from_Contains laws q v xs apart (Contains-permutation ys xs (q, v) (IsPermutation-sym xs ys moved) (Contains-from_lookup one_key q v ys h))

  found_alike : (q : Meaning) → lookup (eq_by_cmp meaning_cmp q) ys ≡ lookup (eq_by_cmp meaning_cmp q) xs
  found_alike q = by (lookup (eq_by_cmp meaning_cmp q) ys) refl (lookup (eq_by_cmp meaning_cmp q) xs) refl
    where
      by : (a : Option Meaning) → lookup (eq_by_cmp meaning_cmp q) ys ≡ a → (b : Option Meaning) → lookup (eq_by_cmp meaning_cmp q) xs ≡ b →
          lookup (eq_by_cmp meaning_cmp q) ys ≡ lookup (eq_by_cmp meaning_cmp q) xs
      by (Some v) h b k = h ∙ sym (found_before q v h)
      by None h (Some w) k = found_again q w k ∙ sym k
      by None h None k = h ∙ sym k

-- sorted entries whose keys rise make the table of the entries as they stood
pub table_of : (xs ys : List (Meaning × Meaning)) → IsPermutation xs ys → Rises meaning_cmp ys → IsTableOf xs (fin.from_sorted ys)
table_of xs ys moved rises =
    let still : KeysDiffer ys = IsDistinct-from_sorted meaning_cmp (keys_of ys) (rising_keys meaning_cmp ys rises) in
    let apart : KeysDiffer xs = still_apart ys xs (IsPermutation-sym xs ys moved) still in record {
      differ = apart;
      table = same_table _ _ (λ q. fin.get-from_sorted meaning_cmp ys q rises ∙ find_is q ys
          ∙ found_alike xs ys moved apart still q ∙ sym (find_is q xs) ∙ sym (fin.get-from_entries nat_list_cmp_total xs q));
    }

-- whether the order is less
abbrev pub is_less : Ordering → Bool
is_less Less = true
is_less Equal = false
is_less Greater = false

less_is : (r : Ordering) → true ≡ is_less r → r ≡ Less
less_is Less h = refl
less_is Equal h = cc
less_is Greater h = cc

no_keys_rise : {K : Type 0} (R : K → K → Ordering) → IsStrictlySortedBy R []
unfolding IsStrictlySortedBy
no_keys_rise R = tt

get_key : {K V : Type 0} (es : List (K × V)) (k : ℕ) (d : K × V) → get_or (keys_of es) k d.0 ≡ (get_or es k d).0
get_key es k d = get_or-map (λ e. e.0) es k d

get_meaning : {K V : Type 0} (f : K → Meaning) (g : V → Meaning) (es : List (K × V)) (k : ℕ) (d : K × V) →
    get_or (keys_of (entry_meanings f g es)) k (f d.0) ≡ f (get_or es k d).0
get_meaning f g es k d = get_key (entry_meanings f g es) k (f d.0, g d.1) ∙ ap (λ e. e.0) (get_or-map (pair_meaning f g) es k d)

-- each key that rises is below the next
rise_at : {K : Type 0} (R : K → K → Ordering) (ks : List K) (k : ℕ) (d : K) → IsStrictlySortedBy R ks → suc k < length ks →
    R (get_or ks k d) (get_or ks (suc k) d) ≡ Less
unfolding IsStrictlySortedBy
rise_at R [] k d h b = absurd (omega arith)
rise_at R (x ∷ []) k d h b = absurd (omega arith)
rise_at R (x ∷ y ∷ ks) zero d h b = h.0.0
rise_at R (x ∷ y ∷ ks) (suc k) d h b = rise_at R (y ∷ ks) k d h.1 (omega arith)

-- each key that is apart from the others is apart from the next
apart_at : {K : Type 0} (e : K → K → Bool) (ks : List K) (k : ℕ) (d : K) → IsDistinct e ks → suc k < length ks → e (get_or ks k d) (get_or ks (suc k) d) ≡ false
apart_at e [] k d h b = absurd (omega arith)
apart_at e (x ∷ []) k d h b = absurd (omega arith)
apart_at e (x ∷ y ∷ ks) zero d h b = (IsDistinct-head e x (y ∷ ks) h).0
apart_at e (x ∷ y ∷ ks) (suc k) d h b = apart_at e (y ∷ ks) k d (IsDistinct-tail e x (y ∷ ks) h) (omega arith)

-- where each two neighbours rise, all keys do
pub rise_from_neighbours : {K V : Type 0} {R : K → K → Ordering} → IsTotalOrder R → (es : List (K × V)) (r : Bool) →
    r ≡ true → IsAllAdjacentAnswer (λ x y b. b ≡ is_less (R x.0 y.0)) es r → IsStrictlySortedBy R (keys_of es)
rise_from_neighbours {R = R} o [] r t h = no_keys_rise R
rise_from_neighbours {R = R} o (e ∷ es) true t h =
    sorted_from_all_adjacent o (keys_of (e ∷ es)) e.0
    (λ k below. rw (get_key (e ∷ es) k e, get_key (e ∷ es) (k + 1) e) (less_is _ (h k e (rw length-keys_of at below))))
rise_from_neighbours o (e ∷ es) false t h = cc

next_rises : {K V : Type 0} (R : K → K → Ordering) (e : K × V) (es : List (K × V)) (k : ℕ) → IsStrictlySortedBy R (keys_of (e ∷ es)) → k + 1 < length (e ∷ es) →
    R (get_or (e ∷ es) k e).0 (get_or (e ∷ es) (k + 1) e).0 ≡ Less
next_rises R e es k rise b =
    rw (← get_key (e ∷ es) k e, ← get_key (e ∷ es) (k + 1) e, add-one k) (rise_at R (keys_of (e ∷ es)) k e.0 rise (rw length-keys_of (omega arith)))

-- and only there
pub neighbours_rise : {K V : Type 0} (R : K → K → Ordering) (es : List (K × V)) (r : Bool) →
    IsAllAdjacentAnswer (λ x y b. b ≡ is_less (R x.0 y.0)) es r → IsStrictlySortedBy R (keys_of es) → r ≡ true
neighbours_rise R es true t rise = refl
neighbours_rise R [] false t rise = absurd (omega (arith, t.1))
neighbours_rise R (e ∷ es) false t rise = t.2 e ∙ ap is_less (next_rises R e es t.0 rise t.1)

-- neither above the next nor at one place with it
less_of : (r s : Ordering) → r ≡ ordering_reverse s → is_eq r ≡ false → is_lt s ≡ false → r ≡ Less
less_of Less s e h k = refl
less_of Equal s e h k = cc
less_of Greater Less e h k = cc
less_of Greater Equal e h k = cc
less_of Greater Greater e h k = cc

module _ {K V : Type 0} (f : K → Meaning) (g : V → Meaning) (R : K → K → Ordering) (by : (x y : K) → R x y ≡ meaning_cmp (f x) (f y)) where
  next_apart : (e : K × V) (es : List (K × V)) (k : ℕ) → KeysDiffer (entry_meanings f g (e ∷ es)) → k + 1 < length (e ∷ es) →
      is_eq (R (get_or (e ∷ es) k e).0 (get_or (e ∷ es) (k + 1) e).0) ≡ false
  next_apart e es k apart b =
      ap is_eq (by _ _)
      ∙ (rw (← get_meaning f g (e ∷ es) k e, ← get_meaning f g (e ∷ es) (k + 1) e, add-one k)
      (apart_at (eq_by_cmp meaning_cmp) (keys_of (entry_meanings f g (e ∷ es))) k (f e.0) apart (rw (length-keys_of, length-map) (omega arith))))

  -- keys that ascend and differ in their meanings rise
  pub rise_from_sorted : IsTotalOrder R → (es : List (K × V)) → IsSortedBy (λ x y. is_lt (R x.0 y.0)) es → KeysDiffer (entry_meanings f g es) →
      IsStrictlySortedBy R (keys_of es)
  rise_from_sorted o [] up apart = no_keys_rise R
  rise_from_sorted o (e ∷ es) up apart =
      sorted_from_all_adjacent o (keys_of (e ∷ es)) e.0 (λ k below. rw (get_key (e ∷ es) k e, get_key (e ∷ es) (k + 1) e)
      (let b : k + 1 < length (e ∷ es) = rw length-keys_of at below in
      less_of _ _ (o.antisymm _ _) (next_apart e es k apart b) (up k e (omega arith) b)))
