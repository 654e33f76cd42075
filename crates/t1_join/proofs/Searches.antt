-- What a binary search by key finds among entries whose keys rise: what the finite map of them has at the key.
use Rattle.std.proofs.Common.{◌≡◌, refl, sym, ap, ◌∙◌, ℕ, zero, suc, ◌-◌, ◌<◌, ◌≤◌, arith, false, cond, ◌⊎◌, T, List, [], ◌∷◌, map, length, get_or, Some, None, Result, Ok, Err, inl, inr}
use Rattle.std.proofs.lemmas.Bool.{cases_lt}
use Rattle.std.specs.{declared.cmp.Ordering.{Ordering}, declared.cmp.Ordering.TheVariants.{Less, Equal, Greater}, Ordering.{ordering_index, ordering_reverse, is_eq}}
use Rattle.std.specs.{Cmp.{IsTotalOrder, alike_right, tied_back}, List.Sorted.{IsNonDecreasingBy, IsSearchInRange, IsBinarySearchResult}, FinMap.{find, from_sorted, get, get-from_sorted}}
use Rattle.std.specs.FinMap.Entries.{below_all}
use Rattle.t1_join.{specs.TableMeaning.{Rises}, proofs.Sorted.{both_true, lt_is}}

not_eq : (r : Ordering) → (r ≡ Equal → ⊥) → is_eq r ≡ false
not_eq Less h = refl
not_eq Equal h = absurd (h refl)
not_eq Greater h = refl

-- an answer no higher than one that is Less is Less
no_less : (r s : Ordering) → ordering_index r ≤ ordering_index s → s ≡ Less → r ≡ Less
no_less Less s l h = refl
no_less Equal s l h = let is : ordering_index s ≡ 0 = ap ordering_index h in absurd (omega (arith, l, is))
no_less Greater s l h = let is : ordering_index s ≡ 0 = ap ordering_index h in absurd (omega (arith, l, is))

-- where the last element is below, all are, and a search ends behind them
pub behind_all : {Y : Type 0} (cmp : Y → Ordering) (ys : List Y) (end : ℕ) → end ≡ length ys → 0 < end → ((d : Y) → cmp (get_or ys (end - 1) d) ≡ Less) →
    IsBinarySearchResult cmp ys (Err end)
behind_all cmp ys end e some last rising = (
  λ k d low inside. no_less (cmp (get_or ys k d)) (cmp (get_or ys (end - 1) d)) (rising k (end - 1) d (omega arith) (omega arith)) (last d),
  λ k d high inside. absurd (omega arith),
)

module _ {K X Y : Type 0} {R : K → K → Ordering} (o : IsTotalOrder R) (v : Y → K × X) where
  -- a key that is below all is below each
  pub above : (x : K) (ys : List Y) (j : ℕ) (d : Y) → T (below_all R x (map v ys)) → j < length ys → R x (v (get_or ys j d)).0 ≡ Less
  above x [] j d h k = absurd (omega arith)
  above x (y ∷ ys) zero d h k = lt_is _ (both_true _ _ h).0
  above x (y ∷ ys) (suc j) d h k = above x ys j d (both_true _ _ h).1 (omega arith)

  -- a lower key compares no higher
  no_higher : (a b q : K) → R a b ≡ Less → ordering_index (R a q) ≤ ordering_index (R b q)
  no_higher a b q h =
      elim (R b q) as (λ r. R b q ≡ r → ordering_index (R a q) ≤ ordering_index r) [
        | Less ↦ λ e. let is : ordering_index (R a q) ≡ 0 = ap ordering_index (o.trans a b q h e) in omega (arith, is)
        | Equal ↦ λ e. let is : ordering_index (R a q) ≡ 0 = ap ordering_index (sym (alike_right o b q a e) ∙ h) in omega (arith, is)
        | Greater ↦ λ e. at_most (R a q)
      ] refl
    where
      at_most : (r : Ordering) → ordering_index r ≤ 2
      at_most Less = omega arith
      at_most Equal = omega arith
      at_most Greater = omega arith

  -- so the answers of a search rise
  pub rising : (q : K) (ys : List Y) → Rises R (map v ys) → IsNonDecreasingBy (λ y. ordering_index (R (v y).0 q)) ys
  rising q [] h i j d le k = absurd (omega arith)
  rising q (y ∷ ys) h zero zero d le k = omega arith
  rising q (y ∷ ys) h zero (suc j) d le k = no_higher _ _ q (above _ ys j d (both_true _ _ h).0 (omega arith))
  rising q (y ∷ ys) h (suc i) zero d le k = absurd (omega arith)
  rising q (y ∷ ys) h (suc i) (suc j) d le k = rising q ys (both_true _ _ h).1 i j d (omega arith) (omega arith)

  -- the entry whose key ties with q is the one that is found
  found : (q : K) (ys : List Y) (i : ℕ) (d : Y) → Rises R (map v ys) → i < length ys → R (v (get_or ys i d)).0 q ≡ Equal →
      find R q (map v ys) ≡ Some (v (get_or ys i d)).1
  found q [] i d h k e = absurd (omega arith)
  found q (y ∷ ys) zero d h k e = ap (λ r. cond (is_eq r) (Some (v y).1) (find R q (map v ys))) (tied_back o _ q e)
  found q (y ∷ ys) (suc i) d h k e =
      let below : R (v y).0 q ≡ Less = sym (alike_right o _ q (v y).0 e) ∙ above _ ys i d (both_true _ _ h).0 (omega arith) in
      ap (λ r. cond (is_eq r) (Some (v y).1) (find R q (map v ys))) (o.antisymm q (v y).0 ∙ ap ordering_reverse below)
      ∙ found q ys i d (both_true _ _ h).1 (omega arith) e

  -- so it stands in the finite map at q
  pub found_at : (q : K) (ys : List Y) (i : ℕ) (d : Y) → Rises R (map v ys) → i < length ys → R (v (get_or ys i d)).0 q ≡ Equal →
      get (from_sorted {R = R} (map v ys)) q ≡ Some (v (get_or ys i d)).1
  found_at q ys i d h inside tied = get-from_sorted R (map v ys) q h ∙ found q ys i d h inside tied

  -- where no key ties with q, nothing is found
  absent : (q : K) (ys : List Y) → ((i : ℕ) (d : Y) → i < length ys → R (v (get_or ys i d)).0 q ≡ Equal → ⊥) → find R q (map v ys) ≡ None
  absent q [] h = refl
  absent q (y ∷ ys) h =
      ap (λ b. cond b (Some (v y).1) (find R q (map v ys))) (not_eq _ (λ e. h 0 y (omega arith) (tied_back o q _ e)))
      ∙ absent q ys (λ i d k e. h (suc i) d (omega arith) e)

  -- what a binary search answers, as the finite map does
  abbrev pub Found : K → List Y → Result ℕ ℕ → Type 0
  Found q ys (Ok i) = (d : Y) → get (from_sorted {R = R} (map v ys)) q ≡ Some (v (get_or ys i d)).1
  Found q ys (Err i) = get (from_sorted {R = R} (map v ys)) q ≡ None

  -- the search finds a key exactly where the map has it, at the place of its entry
  pub searched : (q : K) (ys : List Y) (r : Result ℕ ℕ) → Rises R (map v ys) →
      IsSearchInRange r (length ys) → IsBinarySearchResult (λ y. R (v y).0 q) ys r → Found q ys r
  searched q ys (Ok i) h range is = λ d. get-from_sorted R (map v ys) q h ∙ found q ys i d h range (is d)
  searched q ys (Err i) h range is =
      let parts = is (rising q ys h) in
      get-from_sorted R (map v ys) q h ∙ absent q ys (λ k d inside e. elim (cases k i) [
        | inl low ↦ apart Less (parts.0 k d (omega arith) low) e (λ is. cc)
        | inr high ↦ apart Greater (parts.1 k d high inside) e (λ is. cc)
      ])
    where
      cases : (k i : ℕ) → (k < i) ⊎ (i ≤ k)
      cases k i = cases_lt k i

      apart : (r : Ordering) {s : Ordering} → s ≡ r → s ≡ Equal → (r ≡ Equal → ⊥) → ⊥
      apart r a b h = h (sym a ∙ b)
