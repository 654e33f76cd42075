-- Entries put where a search says: the finite map with that key's value.
use Rattle.std.proofs.Common.{◌≡◌, refl, sym, ap, ◌∙◌, subst, ℕ, zero, suc, ◌<◌, ◌≤◌, arith, List, [], ◌∷◌, map, length, get_or, slice_set, Ok, Err}
use Rattle.std.specs.{List.{insert}, List.Sorted.{IsBinarySearchResult}, declared.cmp.Ordering.{Ordering}, declared.cmp.Ordering.TheVariants.{Less, Equal, Greater}, Ordering.{ordering_reverse}}
use Rattle.std.specs.{Cmp.{IsTotalOrder, alike_right, tied_back}, FinMap.{put, from_sorted, entries-from_sorted, entries-insert, same_entries_map}, FinMap.Entries.{by_order, is_sorted-put}}
use Rattle.t1_join.{specs.TableMeaning.{Rises}, proofs.{Sorted.{both_true}, Searches.{above, rising}}}
use Rattle.std.specs.FinMap as fin

module _ {K X Y : Type 0} {R : K → K → Ordering} (o : IsTotalOrder R) (v : Y → K × X) where
  -- what `put` makes of a first entry, by how the key compares with the entry's
  by_first : (q : K) (x : X) (e : Y) (es : List Y) (r : Ordering) → R q (v e).0 ≡ r →
      put R q x (map v (e ∷ es)) ≡ by_order r ((q, x) ∷ map v (e ∷ es)) (((v e).0, x) ∷ map v es) (v e ∷ put R q x (map v es))
  by_first q x e es r h = ap (λ r. by_order r ((q, x) ∷ map v (e ∷ es)) (((v e).0, x) ∷ map v es) (v e ∷ put R q x (map v es))) h

  back : (a b : K) (r : Ordering) → R b a ≡ r → R a b ≡ ordering_reverse r
  back a b r h = o.antisymm a b ∙ ap ordering_reverse h

  -- an entry put between those below it and those above it stands where a sorted list puts it
  placed : (y : Y) (ys : List Y) (i : ℕ) → i ≤ length ys →
      ((k : ℕ) (d : Y) → k < i → R (v (get_or ys k d)).0 (v y).0 ≡ Less) →
      ((k : ℕ) (d : Y) → i ≤ k → k < length ys → R (v (get_or ys k d)).0 (v y).0 ≡ Greater) →
      map v (insert ys i y) ≡ put R (v y).0 (v y).1 (map v ys)
  placed y [] zero h low high = refl
  placed y [] (suc i) h low high = absurd (omega arith)
  placed y (e ∷ es) zero h low high =
      sym (by_first (v y).0 (v y).1 e es Less (back (v y).0 (v e).0 Greater (high 0 e (omega arith) (omega arith))))
  placed y (e ∷ es) (suc i) h low high =
      ap (λ (rest : List (K × X)). v e ∷ rest)
      (placed y es i (omega arith) (λ k d l. low (suc k) d (omega arith)) (λ k d a l. high (suc k) d (omega arith) (omega arith)))
      ∙ sym (by_first (v y).0 (v y).1 e es Greater (back (v y).0 (v e).0 Less (low 0 e (omega arith))))

  -- an entry in place of one with its key is that key with another value
  replaced : (q : K) (y : Y) (ys : List Y) (i : ℕ) (d : Y) → Rises R (map v ys) → i < length ys → R (v (get_or ys i d)).0 q ≡ Equal →
      (v y).0 ≡ (v (get_or ys i d)).0 → map v (slice_set ys i y) ≡ put R q (v y).1 (map v ys)
  replaced q y [] i d h l t s = absurd (omega arith)
  replaced q y (e ∷ es) zero d h l t s =
      (λ k. (s k, (v y).1) ∷ map v es) ∙ sym (by_first q (v y).1 e es Equal (tied_back o (v e).0 q t))
  replaced q y (e ∷ es) (suc i) d h l t s =
      let below : R (v e).0 q ≡ Less = sym (alike_right o _ q (v e).0 t) ∙ above o v (v e).0 es i d (both_true _ _ h).0 (omega arith) in
      ap (λ (rest : List (K × X)). v e ∷ rest) (replaced q y es i d (both_true _ _ h).1 (omega arith) t s)
      ∙ sym (by_first q (v y).1 e es Greater (back q (v e).0 Less below))

  put_is : (q : K) (x : X) (es : List (K × X)) → Rises R es → from_sorted {R = R} (put R q x es) ≡ fin.insert (from_sorted {R = R} es) q x
  put_is q x es h =
      same_entries_map _ _ (entries-from_sorted R (put R q x es) (is_sorted-put R o q x es h)
      ∙ sym (entries-insert o (from_sorted es) q x ∙ ap (put R q x) (entries-from_sorted R es h)))

  -- an entry put where the search for its key ended
  module _ (y : Y) (ys : List Y) (i : ℕ) (h : Rises R (map v ys)) (inside : i ≤ length ys) (is : IsBinarySearchResult (λ e. R (v e).0 (v y).0) ys (Err i)) where
    placed_there : map v (insert ys i y) ≡ put R (v y).0 (v y).1 (map v ys)
    placed_there = let parts = is (rising o v (v y).0 ys h) in placed y ys i inside (λ k d l. parts.0 k d (omega arith) l) (λ k d a l. parts.1 k d a l)

    -- the keys still rise
    pub rises_placed : Rises R (map v (insert ys i y))
    rises_placed = subst (Rises R) (sym placed_there) (is_sorted-put R o (v y).0 (v y).1 (map v ys) h)

    -- the map has the entry too
    pub map_placed : from_sorted {R = R} (map v (insert ys i y)) ≡ fin.insert (from_sorted {R = R} (map v ys)) (v y).0 (v y).1
    map_placed = ap from_sorted placed_there ∙ put_is (v y).0 (v y).1 (map v ys) h

  -- an entry with another value, where the search for a key found it
  module _ (q : K) (y : Y) (ys : List Y) (i : ℕ) (d : Y) (h : Rises R (map v ys)) (inside : i < length ys)
      (is : IsBinarySearchResult (λ e. R (v e).0 q) ys (Ok i)) (same : (v y).0 ≡ (v (get_or ys i d)).0) where
    replaced_there : map v (slice_set ys i y) ≡ put R q (v y).1 (map v ys)
    replaced_there = replaced q y ys i d h inside (is d) same

    -- the keys still rise
    pub rises_replaced : Rises R (map v (slice_set ys i y))
    rises_replaced = subst (Rises R) (sym replaced_there) (is_sorted-put R o q (v y).1 (map v ys) h)

    -- the map has the new value at the key
    pub map_replaced : from_sorted {R = R} (map v (slice_set ys i y)) ≡ fin.insert (from_sorted {R = R} (map v ys)) q (v y).1
    map_replaced = ap from_sorted replaced_there ∙ put_is q (v y).1 (map v ys) h
