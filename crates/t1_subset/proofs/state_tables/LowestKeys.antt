-- The lowest key that passes a test, as a search of a map finds it, and the lower of two.
use Rattle.std.proofs.lemmas.Bool.{or_left, or_right, false_from_ne_true}
use Rattle.std.proofs.Common.{arith, ◌≡◌, ℕ, Bool, true, false, cond, ◌||◌, List, [], ◌∷◌, map, option_map, refl, sym, ◌∙◌, ap, true≢false, Option, Some, None, Ordering, Less, Equal, Greater, is_lt}
use Rattle.std.specs.{List.{list_any, AllByRecursion, find}, Ordering.{eq_by_cmp, ordering_reverse}, Cmp.{IsTotalOrder, first_so, second_so}, FinSet.{IsAntisymmetric}}
use Rattle.std.specs.FinMap.Entries.{below_all, is_sorted}
use Rattle.t1_font.proofs.MapLemmas.{T_true}
use Rattle.t1_algebra.specs.{Conflicts.{keys_of_both}, Searches.{smallest, members, IsLowest}}
use Rattle.t1_algebra.proofs.{Maps.{in_both}, Searching.{passes_none, none_at_all, first_passes, smallest_is, below_later}, Sets.{tied, cases}}
use Rattle.t1_subset.specs.Differences.{smaller}
use Rattle.std.specs.FinMap as maps

module _ {K : Type 0} {R : K → K → Ordering} (o : IsTotalOrder R) (same : IsAntisymmetric R) where
  -- no key is both below and above another
  pub one_way : (x y : K) → R x y ≡ Less → R y x ≡ Less → ⊥
  one_way x y h k = let back = o.antisymm y x in grind (arith, back)

  module _ (p : K → Bool) where
    -- among sorted entries, a key below the first that passes does not pass
    first_least : {X : Type 0} (es : List (K × X)) (k q : K) → is_sorted R es ≡ true →
        find p (map (λ e. e.0) es) ≡ Some k → list_any (eq_by_cmp R q) (map (λ e. e.0) es) ≡ true → R q k ≡ Less → p q ≡ false
    first_least [] k q s h w l = cc
    first_least (e ∷ es) k q s h w l =
        let rest = first_least es k q (second_so (below_all R e.0 es) (is_sorted R es) s) in
        grind (cases, tied o same q e.0, below_later o same p e.0 q es (first_so (below_all R e.0 es) (is_sorted R es) s), rest, one_way k q, one_way k k)

    -- the key of the first entry that passes is the first key that passes
    first_keys : {X : Type 0} (P : K × X → Bool) (es : List (K × X)) → AllByRecursion (λ e. P e ≡ p e.0) es →
        option_map (λ e. e.0) (find P es) ≡ find p (map (λ e. e.0) es)
    first_keys P [] h = refl
    first_keys P (e ∷ es) h = let here = h.0 in let rest = first_keys P es h.1 in grind (arith, here, rest)

    -- if all that pass are keys of a map, the first of its keys that passes is the lowest
    module _ {X : Type 0} (m : maps.FinMap R X) (only : (q : K) → p q ≡ true → maps.contains_key m q ≡ true) where
      key_in : (q : K) → p q ≡ true → list_any (eq_by_cmp R q) (maps.keys m) ≡ true
      key_in q h = sym (maps.contains_key-keys m q) ∙ only q h

      pub lowest_key : (x : Option K) → find p (maps.keys m) ≡ x → IsLowest R p x
      lowest_key None h = λ q. false_from_ne_true (p q) (λ is. true≢false (sym is ∙ none_at_all o same p (maps.keys m) q h (key_in q is)))
      lowest_key (Some k) h = record {
        it = first_passes p (maps.keys m) k h;
        none_lower = λ q l. false_from_ne_true (p q)
            (λ is. true≢false (sym is ∙ first_least (maps.entries m) k q (T_true (is_sorted R (maps.entries m)) (maps.entries_sorted m)) h (key_in q is) l));
      }

      -- the same, of the first of its entries
      pub lowest_entry : (P : K × X → Bool) → AllByRecursion (λ e. P e ≡ p e.0) (maps.entries m) →
          (x : Option K) → x ≡ option_map (λ e. e.0) (find P (maps.entries m)) → IsLowest R p x
      lowest_entry P h x is = lowest_key x (sym (is ∙ first_keys P (maps.entries m) h))

    -- the lowest key that passes is the smallest of a set that has all that pass
    pub lowest_is : (s : maps.FinMap R ℕ) → ((k : K) → p k ≡ true → maps.contains_key s k ≡ true) → (x : Option K) → IsLowest R p x → x ≡ smallest p s
    lowest_is s only None h = sym (passes_none p (members s) h)
    lowest_is s only (Some k) h = sym (smallest_is o same p s k (only k h.it) h.it (λ q w l. h.none_lower q l))

module _ {K : Type 0} {R : K → K → Ordering} (o : IsTotalOrder R) (same : IsAntisymmetric R) where
  module _ (p q : K → Bool) where
    -- the lower of the lowest keys of two tests is the lowest that passes either
    pub lower_of : (x y : Option K) → IsLowest R p x → IsLowest R q y → IsLowest R (λ k. p k || q k) (smaller R x y)
    lower_of None None h k = λ r. grind (arith, h r, k r)
    lower_of None (Some n) h k = record { it = or_right (p n) (q n) k.it; none_lower = λ r l. grind (arith, h r, k.none_lower r l) }
    lower_of (Some m) None h k = record { it = or_left (p m) (q m) h.it; none_lower = λ r l. grind (arith, h.none_lower r l, k r) }
    lower_of (Some m) (Some n) h k =
        elim (R n m) as (λ x. R n m ≡ x → IsLowest R (λ k. p k || q k) (cond (is_lt x) (Some n) (Some m))) [
          | Less ↦ λ e. record { it = or_right (p n) (q n) k.it; none_lower = λ r l. grind (arith, h.none_lower r (o.trans r n m l e), k.none_lower r l) }
          | Equal ↦ λ e.
              record { it = or_left (p m) (q m) h.it; none_lower = λ r l. grind (arith, h.none_lower r l, k.none_lower r (ap (R r) (same n m e) ∙ l)) }
          | Greater ↦ λ e. record {
            it = or_left (p m) (q m) h.it;
            none_lower = λ r l. grind (arith, h.none_lower r l, k.none_lower r (o.trans r m n l (o.antisymm m n ∙ ap ordering_reverse e)));
          }
        ] refl

    -- the smaller of the first keys of two maps is the smallest of both
    pub smaller_first : {X : Type 0} (a b : maps.FinMap R X) → ((k : K) → p k ≡ true → maps.contains_key a k ≡ true) →
        ((k : K) → q k ≡ true → maps.contains_key b k ≡ true)
        → smaller R (find p (maps.keys a)) (find q (maps.keys b)) ≡ smallest (λ k. p k || q k) (keys_of_both a b)
    smaller_first a b in_a in_b =
        lowest_is o same (λ k. p k || q k) (keys_of_both a b) (λ k h. grind (cases, h, in_both o same a b k, in_a k, in_b k))
        (smaller R (find p (maps.keys a)) (find q (maps.keys b)))
        (lower_of (find p (maps.keys a)) (find q (maps.keys b))
        (lowest_key o same p a in_a (find p (maps.keys a)) refl) (lowest_key o same q b in_b (find q (maps.keys b)) refl))
