-- The join of flat states, and what a merged map has at a key.
use Rattle.std.proofs.Common.{◌≡◌, ℕ, ◌||◌, refl, arith, Option, Some, None, option_map, Ordering, cond, List, [], ◌∷◌, map, ◌∙◌}
use Rattle.t1_font.specs.Maps.{merged}
use Rattle.t1_algebra.{specs.{Conflicts.{keys_of_both}, States.{Agree, joined_option}}, proofs.{Words.{list_any, eq_by_cmp, IsTotalOrder, IsAntisymmetric}, Sets.{cases}}}
use Rattle.std.specs.FinMap as maps
use Rattle.t1_font.proofs.MapLemmas as cuts

-- states agree in both orders
pub agree_back : {V : Type 0} (x y : Option V) → Agree x y → Agree y x
agree_back x y h = grind cases

module _ {K : Type 0} {R : K → K → Ordering} (o : IsTotalOrder R) (same : IsAntisymmetric R) {X : Type 0} where
  -- a merged map has the join of the values at each key
  pub get-merged : (m n : maps.FinMap R X) (q : K) → maps.get (merged m n) q ≡ joined_option (maps.get m q) (maps.get n q)
  get-merged m n q = grind (cases, cuts.get-merged o same m n q)

  get-both : (a b : maps.FinMap R X) (q : K) → maps.get (keys_of_both a b) q ≡ option_map (λ v. 0) (joined_option (maps.get a q) (maps.get b q))
  get-both a b q = grind (arith, cuts.get-map_values o same {Y = ℕ} (λ k v. 0) (merged a b) q, get-merged a b q)

  -- the keys of both maps are those of either
  pub in_both : (a b : maps.FinMap R X) (q : K) → maps.contains_key (keys_of_both a b) q ≡ (maps.contains_key a q || maps.contains_key b q)
  in_both a b q = grind (cases, get-both a b q)

  -- the keys of both maps are the same in either order
  pub both_back : (a b : maps.FinMap R X) → keys_of_both a b ≡ keys_of_both b a
  both_back a b = maps.same_map o same (keys_of_both a b) (keys_of_both b a) (λ q. grind (cases, get-both a b q, get-both b a q))

-- a map of keys that all have one value has it at each of these keys, and nothing else
pub get-valued : {K X : Type 0} {R : K → K → Ordering} (o : IsTotalOrder R) (v : X) (ks : List K) (q : K) →
    maps.get {R = R} (maps.from_entries (map (λ k. (k, v)) ks)) q ≡ cond (list_any (eq_by_cmp R q) ks) (Some v) None
get-valued {R = R} o v ks q = maps.get-from_entries o (map (λ k. (k, v)) ks) q ∙ find_valued ks
  where
    find_valued : (ks : List _) → maps.find R q (map (λ k. (k, v)) ks) ≡ cond (list_any (eq_by_cmp R q) ks) (Some v) None
    find_valued [] = refl
    find_valued (k ∷ ks) = grind (cases, find_valued ks)
