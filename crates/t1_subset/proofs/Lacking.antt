-- Searches for a lack, number by number.
use Rattle.std.proofs.Common.{◌≡◌, ◌<◌, ◌≤◌, ◌+◌, ℕ, zero, suc, arith, refl, sym, ap, subst, ◌∙◌, Bool, true, false, ◌&&◌, true≢false, nat_cmp, List, [], ◌∷◌, Option, Some, None, is_some}
use Rattle.std.proofs.Common.{nat_lt, cond, not}
use Rattle.std.proofs.lemmas.Bool.{ltb-true, ltb-false}
use Rattle.std.specs.{Option.{option_map}, List.{AllByRecursion, list_any}, Ordering.{eq_by_cmp}}
use Rattle.t1_font.specs.FontValue.{FontValue}
use Rattle.t1_algebra.specs.{Lacks.{Lack, user_of, is_had, lack_at, first_lack, first_below}, Interpreter.{same_bytes}, Searches.{found}}
use Rattle.t1_algebra.proofs.{Sets.{tied, name_same}, Words.{nat_list_cmp_total}, rejoining.Lacking.{same_indices_lack_none}}
use Rattle.t1_subset.specs.Lacks.{have_same_subrs}
use Rattle.std.specs.FinMap as maps

module _ {X : Type 0} (value : ℕ → Option X) where
  -- nothing is found below one more number if nothing is there
  pub none_there : (i : ℕ) → first_below value i ≡ None → value i ≡ None → first_below value (i + 1) ≡ None
  none_there i none h =
      let next : suc i ≡ i + 1 = omega arith in subst (λ (n : ℕ). first_below value n ≡ None) next (λ k. found (λ x. x) (none k) (h k))

  -- nor below more numbers if nothing is at any of these
  pub none_beyond : (n m : ℕ) → first_below value n ≡ None → n ≤ m → ((k : ℕ) → n ≤ k → k < m → value k ≡ None) → first_below value m ≡ None
  none_beyond n zero none l far = refl
  none_beyond n (suc m) none l far = by (nat_lt n (suc m)) refl (λ less. none_beyond n m none less (λ k a b. far k a (omega (arith, b))))
    where
      by : (b : Bool) → nat_lt n (suc m) ≡ b → (n ≤ m → first_below value m ≡ None) → first_below value (suc m) ≡ None
      by true t sooner =
          let less : n < suc m = ltb-true n (suc m) t in
          λ k. found (λ x. x) (sooner (omega (arith, less)) k) (far m (omega (arith, less)) (omega arith) k)
      by false t sooner =
          let not_less : suc m ≤ n = ltb-false n (suc m) t in
          let same : n ≡ suc m = omega (arith, l, not_less) in
          subst (λ (x : ℕ). first_below value x ≡ None) same none

  -- what is first found at a number is found below each larger one
  pub found_there : (i n : ℕ) (x : X) → first_below value i ≡ None → value i ≡ Some x → i < n → first_below value n ≡ Some x
  found_there i zero x none is lt = absurd (omega (arith, lt))
  found_there i (suc n) x none is lt = by (nat_lt i n) refl (λ less. found_there i n x none is less)
    where
      by : (b : Bool) → nat_lt i n ≡ b → (i < n → first_below value n ≡ Some x) → first_below value (suc n) ≡ Some x
      by true t sooner = ap (λ (o : Option X). found (λ x. x) o (value n)) (sooner (ltb-true i n t))
      by false t sooner =
          let same : i ≡ n = omega (arith, lt, ltb-false i n t) in
          subst (λ (m : ℕ). first_below value (suc m) ≡ Some x) same (λ k. found (λ x. x) (none k) (is k))

  -- so is what code shows there
  pub shown_there : {Y : Type 0} (see : Y → X) (r : Option Y) (i n : ℕ) → first_below value i ≡ None → option_map see r ≡ value i → is_some r ≡ true →
      i < n → option_map see r ≡ first_below value n
  shown_there see None i n none is t lt = absurd (true≢false (sym t))
  shown_there see (Some y) i n none is t lt = sym (found_there i n (see y) none (sym is) lt)

-- where both hold, each does
both : (a b : Bool) → (a && b) ≡ true → (a ≡ true) × (b ≡ true)
both true b h = (refl, h)
both false b h = absurd (true≢false (sym h))

-- fonts with Subrs at the indices of one have them there alone
have_these : (f : FontValue) (fs : List FontValue) → have_same_subrs f fs ≡ true →
    AllByRecursion (λ g. (i : ℕ) → maps.contains_key g.subrs i ≡ maps.contains_key f.subrs i) fs
have_these f [] h = tt
have_these f (g ∷ gs) h =
    let w = both (same_bytes (maps.keys f.subrs) (maps.keys g.subrs)) (have_same_subrs f gs) h in
    let same : maps.keys f.subrs ≡ maps.keys g.subrs = tied nat_list_cmp_total name_same (maps.keys f.subrs) (maps.keys g.subrs) w.0 in (
      λ i. maps.contains_key-keys g.subrs i ∙ (ap (λ (ks : List ℕ). list_any (eq_by_cmp nat_cmp i) ks) (sym same) ∙ sym (maps.contains_key-keys f.subrs i)),
      have_these f gs w.1,
    )

-- so none lacks any
pub same_subrs_lack_none : (f : FontValue) (fs : List FontValue) → have_same_subrs f fs ≡ true → first_lack fs ≡ None
same_subrs_lack_none f fs h = same_indices_lack_none (maps.contains_key f.subrs) fs (have_these f fs h)

-- a font lacks nothing where no glyph executes it
pub unused_lacks_none : (fs : List FontValue) (f : FontValue) (i : ℕ) → user_of f i ≡ None → lack_at fs f i ≡ None
unused_lacks_none fs f i h = ap (λ (o : Option (List ℕ)). cond (not (maps.contains_key f.subrs i) && is_had fs i) (option_map (λ n. (i, n)) o) None) h
    ∙ nothing (not (maps.contains_key f.subrs i) && is_had fs i)
  where
    nothing : (b : Bool) → ◌≡◌ {A = Option Lack} (cond b None None) None
    nothing true = refl
    nothing false = refl
