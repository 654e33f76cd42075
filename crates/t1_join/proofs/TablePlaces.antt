-- What stands at the places of a table whose keys rise, and where a key stands.
use Rattle.std.proofs.Common.{◌≡◌, ℕ, ◌-◌, ◌<◌, ◌≤◌, arith, get_or, Ordering, List, map, length, Option, Some, None, Result, Ok, Err, inl, inr, refl, sym, ap, subst, ◌∙◌}
use Rattle.std.proofs.{lemmas.List.{length-map}, lemmas.Option.{slice_get_within, slice_get_cases, slice_get_past, slice_get-get_or, slice_get-map, get_or_from_slice_get}}
use Rattle.std.specs.{Borrow.{Bor}, Cmp.{IsTotalOrder}, List.{slice_get}, List.Sorted.{IsSearchInRange, IsBinarySearchResult}, Slice.{IsItemAt}}
use Rattle.std.specs.{Option.{option_map, option_and_then}, Result.{result_ok}, Ordering.{ordering_index}, declared.cmp.Ordering.TheVariants.{Less, Equal, Greater}}
use Rattle.std.specs.FinMap.{FinMap, IsAntisymmetric, get, len, entries, from_sorted, entries-from_sorted, len-entries}
use Rattle.t1_join.{specs.TableMeaning.{Rises}, proofs.Searches.{searched}}

-- what a slice lends at a place
module _ {Y : Type 0} (ys : List Y) (i : ℕ) where
  lent_there : (x : Bor Y) → IsItemAt ys i (Some x) → slice_get ys i ≡ Some x.now
  lent_there x h = slice_get-get_or ys i x.now h.3.0 ∙ ap (λ y. Some y) (sym (h.3.1 x.now))

  lent_nowhere : IsItemAt ys i None → slice_get ys i ≡ None
  lent_nowhere h = slice_get_past ys i h.3

-- a table, whose entries es are what is seen of ys
module _ {K X Y : Type 0} {R : K → K → Ordering} (v : Y → K × X) (ys : List Y) (es : List (K × X))
    (m : FinMap R X) (form : es ≡ map v ys) (h : Rises R es) (is : from_sorted es ≡ m) where
  pub seen : map v ys ≡ entries m
  seen = sym form ∙ (sym (entries-from_sorted R es h) ∙ ap entries is)

  pub count_is : length ys ≡ len m
  count_is = sym (length-map ys v) ∙ (ap length seen ∙ sym (len-entries m))

  got : (i : ℕ) (o : Option Y) → slice_get ys i ≡ o → option_map v o ≡ slice_get (entries m) i
  got i o e = ap (option_map v) (sym e) ∙ (sym (slice_get-map v ys i) ∙ ap (λ (l : List (K × X)). slice_get l i) seen)

  -- the entry at a place, and none past them all
  pub stands : (i : ℕ) (x : Bor Y) (e : K × X) → IsItemAt ys i (Some x) → e ≡ v x.now → Some e ≡ slice_get (entries m) i
  stands i x e there same = ap (λ y. Some y) same ∙ got i (Some x.now) (lent_there ys i x there)

  pub stands_not : (i : ℕ) → IsItemAt ys i None → None ≡ slice_get (entries m) i
  stands_not i nowhere = got i None (lent_nowhere ys i nowhere)

  -- so it is with what is copied of what stands there
  pub stands_copied : (i : ℕ) (r : Option (Bor Y)) → IsItemAt ys i r → option_map v (option_map (λ b. b.now) r) ≡ slice_get (entries m) i
  stands_copied i None h = stands_not i h
  stands_copied i (Some x) h = stands i x (v x.now) h refl

  -- so it is with what is lent of it
  pub stands_lent : (i : ℕ) (r : Option (Bor Y)) → IsItemAt ys i r → option_map (λ b. v b.now) r ≡ slice_get (entries m) i
  stands_lent i None h = stands_not i h
  stands_lent i (Some x) h = stands i x (v x.now) h refl

  -- what a search by halves finds is the place of the key, where the map has it
  module _ (o : IsTotalOrder R) (same : IsAntisymmetric R) (q : K) where
    rise : Rises R (map v ys)
    rise = subst (Rises R) form h

    finds : get m q ≡ get (from_sorted {R = R} (map v ys)) q
    finds = ap (λ n. get n q) (sym is ∙ ap (from_sorted {R = R}) form)

    pub found_place : (r : Result ℕ ℕ) → IsSearchInRange r (length ys) → IsBinarySearchResult (λ y. R (v y).0 q) ys r →
        option_and_then (slice_get (entries m)) (result_ok r) ≡ option_map (λ b. (q, b)) (get m q)
    found_place (Ok i) range at = elim (slice_get_cases ys i).1 [
      | inl w ↦
          let x = w.0 in
          let key : (v x).0 ≡ q = ap (λ y. (v y).0) (sym w.3) ∙ same _ _ (at x) in
          let value : get m q ≡ Some (v x).1 = finds ∙ (searched o v q ys (Ok i) rise range at x ∙ ap (λ y. Some (v y).1) w.3) in
          sym (got i (Some x) w.2) ∙ (ap (λ k. Some (k, (v x).1)) key ∙ sym (ap (option_map (λ b. (q, b))) value))
      | inr w ↦ absurd (omega (arith, range, w.0))
    ]
    found_place (Err i) range at = sym (ap (option_map (λ b. (q, b))) (finds ∙ searched o v q ys (Err i) rise range at))

    -- the lowest answer is the lowest number
    lowest : (r : Ordering) → ordering_index r ≤ 0 → r ≡ Less
    lowest Less h = refl
    lowest Equal h = absurd (omega (arith, h))
    lowest Greater h = absurd (omega (arith, h))

    -- the map has no key behind that of the last entry
    pub none_behind : (y : Y) → Some y ≡ slice_get ys (length ys - 1) → R (v y).0 q ≡ Less → get m q ≡ None
    none_behind y last low =
        let far : length ys - 1 < length ys = slice_get_within ys (length ys - 1) y (sym last) in
        finds ∙ searched o v q ys (Err (length ys)) rise (omega arith) (λ rises. (
          λ k d _ below. lowest _ (subst (λ (n : ℕ). ordering_index (R (v (get_or ys k d)).0 q) ≤ n)
              (ap (λ z. ordering_index (R (v z).0 q)) (get_or_from_slice_get ys (length ys - 1) y d (sym last)) ∙ ap ordering_index low)
              (rises k (length ys - 1) d (omega (arith, below)) far)),
          λ k d behind inside. absurd (omega (arith, behind, inside)),
        ))
