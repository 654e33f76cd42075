-- Lists in another order in which those that tie stand as they stood.
use Rattle.std.proofs.Common.{◌≡◌, ℕ, refl, sym, ap, subst, ◌∙◌, rules, Bool, true, false, cond, not, ◌&&◌, List, [], ◌∷◌, true≢false}
use Rattle.std.specs.{Prelude.{filter}, List.Sorted.{IsStableByKey, ties}}
use Rattle.std.specs.{Ordering.{nat_cmp, is_lt, is_eq}, Cmp.{Equal-is}, Cmp.Lexicographic.{nat_list_cmp_total}}
use Rattle.std.specs.FinSet.{slice_cmp-IsAntisymmetric, nat_cmp-IsAntisymmetric}
use Rattle.t1_font.{specs.{declared.ranges.Range.{Range}, FontValue.{name_cmp}, Ranges.{bytes_at, by_name}}, proofs.Lasts.{tie_is}}

-- what passes one test passes another, too: then only what passes that has to be tested
filter_within : {X : Type 0} (p q : X → Bool) → ((x : X) → p x ≡ true → q x ≡ true) → (xs : List X) → filter p (filter q xs) ≡ filter p xs
filter_within p q within [] = refl
filter_within p q within (x ∷ xs) =
    let rest = filter_within p q within xs in
    elim (q x) as (λ b. q x ≡ b → filter p (cond b (x ∷ filter q xs) (filter q xs)) ≡ cond (p x) (x ∷ filter p xs) (filter p xs)) [
      | true ↦ λ h. ap (λ ys. cond (p x) (x ∷ ys) ys) rest
      | false ↦ λ h. elim (p x) as (λ b. p x ≡ b → filter p (filter q xs) ≡ cond b (x ∷ filter p xs) (filter p xs)) [
        | true ↦ λ t. absurd (true≢false (sym (within x t) ∙ h))
        | false ↦ λ t. rest
      ] refl
    ] refl

module _ {V : Type 0} (key : List ℕ → ℕ) (buffer : List ℕ) where
  abbrev by_names : Range × V → Range × V → Bool
  by_names x y = is_lt (by_name buffer x.0 y.0)

  abbrev by_keys : Range × V → Range × V → Bool
  by_keys x y = is_lt (nat_cmp (key (bytes_at buffer x.0)) (key (bytes_at buffer y.0)))

  -- equal names have one key
  same_key : (x y : Range × V) → ties by_names x y ≡ true → ties by_keys x y ≡ true
  same_key x y h =
      let m = bytes_at buffer x.0 in
      let n = bytes_at buffer y.0 in
      let tied : is_eq (name_cmp m n) ≡ true = tie_is (name_cmp m n) (name_cmp n m) (nat_list_cmp_total.antisymm n m) ∙ h in
      let same : m ≡ n = slice_cmp-IsAntisymmetric nat_cmp-IsAntisymmetric m n ((Equal-is (name_cmp m n)).0 tied) in
      let alike : (k : ℕ) → (not (is_lt (nat_cmp k k)) && not (is_lt (nat_cmp k k))) ≡ true = λ k. search rules in
      subst (λ t. (not (is_lt (nat_cmp (key m) (key t))) && not (is_lt (nat_cmp (key t) (key m)))) ≡ true) same (alike (key m))

  -- so lists that keep the order of those of one key keep that of equal names
  pub stable_by : (es near : List (Range × V)) → IsStableByKey (λ (e : Range × V). key (bytes_at buffer e.0)) nat_cmp es near →
      IsStableByKey (λ (e : Range × V). e.0) (by_name buffer) es near
  stable_by es near stable x =
      sym (filter_within (ties by_names x) (ties by_keys x) (same_key x) near)
      ∙ (ap (filter (ties by_names x)) (stable x) ∙ filter_within (ties by_names x) (ties by_keys x) (same_key x) es)
