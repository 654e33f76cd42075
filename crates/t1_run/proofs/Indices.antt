-- Indices that come to a set: those that are in it already change nothing.
use Rattle.std.proofs.Common.{◌≡◌, refl, sym, ap, subst, ◌∙◌, ℕ, List, [], ◌∷◌, ◌++◌, append_assoc, ◌⊎◌, inl, inr, ◌<◌, ◌≤◌, ◌+◌, ◌==◌, Bool, true, false, cond, eqb-true, arith}
use Rattle.std.proofs.{lemmas.List.{append-nil}, lemmas.List.Sums.{sum_by-cons}}
use Rattle.std.specs.{declared.cmp.Ordering.{Ordering}, declared.cmp.Ordering.TheVariants.{Less, Equal, Greater}, Cmp.{ranked}, BTreeSet.{insert_key}}
use Rattle.std.specs.Ordering.{nat_cmp, match_ordering, MatchOrdering}
use Rattle.t1_run.specs.{Run.{with_indices, AddsFirst}, SubrSet.{is_in, times, AreListed}}

-- indices are put into a set one list after the other
pub with_indices-append : (set is js : List ℕ) → with_indices set (is ++ js) ≡ with_indices (with_indices set is) js
with_indices-append set [] js = refl
with_indices-append set (i ∷ is) js = with_indices-append (insert_key nat_cmp set i) is js

-- The index stands in the list, and all before it are less.
abbrev Reached : ℕ → List ℕ → Type 0
Reached i [] = ⊥
Reached i (x ∷ xs) = (x ≡ i) ⊎ ((x < i) × Reached i xs)

reached_insert : (i : ℕ) (ks : List ℕ) → Reached i (insert_key nat_cmp ks i)
reached_insert i [] = inl refl
reached_insert i (x ∷ xs) =
    let P : Ordering → Type 0 = λ r. Reached i (match_ordering r (i ∷ x ∷ xs) (x ∷ xs) (x ∷ insert_key nat_cmp xs i)) in
    let by : (r : Ordering) → MatchOrdering r (i < x) (i ≡ x) (x < i) → P r = λ r. elim r as (λ r. MatchOrdering r (i < x) (i ≡ x) (x < i) → P r) [
      | Less ↦ λ h. inl refl
      | Equal ↦ λ h. inl (sym h)
      | Greater ↦ λ h. inr (h, reached_insert i xs)
    ] in
    by (nat_cmp i x) (ranked i x (nat_cmp i x) refl)

before_reached : (i j x : ℕ) (xs : List ℕ) → j < x → Reached i (x ∷ xs) → j < i
before_reached i j x xs less (inl e) = omega (arith, less, e)
before_reached i j x xs less (inr h) = omega (arith, less, h.0)

reached_insert_other : (i j : ℕ) (ks : List ℕ) → Reached i ks → Reached i (insert_key nat_cmp ks j)
reached_insert_other i j [] h = absurd h
reached_insert_other i j (x ∷ xs) h =
    let rest : Reached i xs → Reached i (insert_key nat_cmp xs j) = reached_insert_other i j xs in
    let P : Ordering → Type 0 = λ r. Reached i (match_ordering r (j ∷ x ∷ xs) (x ∷ xs) (x ∷ insert_key nat_cmp xs j)) in
    let by : (r : Ordering) → MatchOrdering r (j < x) (j ≡ x) (x < j) → P r = λ r. elim r as (λ r. MatchOrdering r (j < x) (j ≡ x) (x < j) → P r) [
      | Less ↦ λ less. inr (before_reached i j x xs less h, h)
      | Equal ↦ λ e. h
      | Greater ↦ λ more. elim h [ inl e ↦ inl e | inr k ↦ inr (k.0, rest k.1) ]
    ] in
    by (nat_cmp j x) (ranked j x (nat_cmp j x) refl)

not_below : (i x : ℕ) (xs : List ℕ) → i < x → Reached i (x ∷ xs) → ⊥
not_below i x xs less (inl e) = absurd (omega (arith, less, e))
not_below i x xs less (inr h) = absurd (omega (arith, less, h.0))

reached_rest : (i x : ℕ) (xs : List ℕ) → x < i → Reached i (x ∷ xs) → Reached i xs
reached_rest i x xs more (inl e) = absurd (omega (arith, more, e))
reached_rest i x xs more (inr h) = h.1

-- it is there already
insert_reached : (i : ℕ) (ks : List ℕ) → Reached i ks → insert_key nat_cmp ks i ≡ ks
insert_reached i [] h = absurd h
insert_reached i (x ∷ xs) h =
    let rest : Reached i xs → insert_key nat_cmp xs i ≡ xs = insert_reached i xs in
    let P : Ordering → Type 0 = λ r. match_ordering r (i ∷ x ∷ xs) (x ∷ xs) (x ∷ insert_key nat_cmp xs i) ≡ x ∷ xs in
    let by : (r : Ordering) → MatchOrdering r (i < x) (i ≡ x) (x < i) → P r =
    λ r. elim r as (λ r. MatchOrdering r (i < x) (i ≡ x) (x < i) → P r) [
      | Less ↦ λ less. absurd (not_below i x xs less h)
      | Equal ↦ λ e. refl
      | Greater ↦ λ more. ap (λ (ks : List ℕ). x ∷ ks) (rest (reached_rest i x xs more h))
    ] in
    by (nat_cmp i x) (ranked i x (nat_cmp i x) refl)

reached_with : (j : ℕ) (is set : List ℕ) → Reached j set → Reached j (with_indices set is)
reached_with j [] set h = h
reached_with j (i ∷ is) set h = reached_with j is (insert_key nat_cmp set i) (reached_insert_other j i set h)

-- an index of the list is in a set to which the list came
reached_from : (is set : List ℕ) (i : ℕ) → 0 < times is i → Reached i (with_indices set is)
reached_from [] set i h = absurd (omega (arith, h))
reached_from (j ∷ is) set i h =
    let here : j ≡ i → Reached i (with_indices (insert_key nat_cmp set j) is) =
    λ e. subst (λ n. Reached n (with_indices (insert_key nat_cmp set j) is)) e (reached_with j is (insert_key nat_cmp set j) (reached_insert j set)) in
    let by : (b : Bool) → (j == i) ≡ b → 0 < cond b 1 0 + times is i → Reached i (with_indices (insert_key nat_cmp set j) is) =
    λ b. elim b as (λ b. (j == i) ≡ b → 0 < cond b 1 0 + times is i → Reached i (with_indices (insert_key nat_cmp set j) is)) [
      | true ↦ λ e more. here (eqb-true j i e)
      | false ↦ λ e more. reached_from is (insert_key nat_cmp set j) i (omega (arith, more))
    ]
    in
    by (j == i) refl (subst (λ n. 0 < n) (sum_by-cons (λ x. cond (x == i) 1 0) j is) h)

-- an index of the list comes once more
pub with_listed : (is set : List ℕ) (i : ℕ) → 0 < times is i → insert_key nat_cmp (with_indices set is) i ≡ with_indices set is
with_listed is set i h = insert_reached i (with_indices set is) (reached_from is set i h)

-- an index that is in stands in the list
pub some_listed : (places : List Bool) (is : List ℕ) (i : ℕ) → AreListed places is → is_in places i ≡ true → 0 < times is i
some_listed places is i h e = let once : times is i ≡ 1 = h i ∙ ap (λ b. cond b 1 0) e in omega (arith, once)

-- each index stands in it at most once
pub once_listed : (places : List Bool) (is : List ℕ) → AreListed places is → (i : ℕ) → times is i ≤ 1
once_listed places is h i = rw (h i) (at_most_one (is_in places i))
  where
    -- one or none is at most one
    at_most_one : (b : Bool) → cond b 1 0 ≤ 1
    at_most_one true = omega arith
    at_most_one false = omega arith

abbrev AllReached : List ℕ → List ℕ → Type 0
AllReached set [] = Unit {0}
AllReached set (i ∷ is) = Reached i set × AllReached set is

all_reached : (is set : List ℕ) → AllReached (with_indices set is) is
all_reached [] set = tt
all_reached (i ∷ is) set = (reached_with i is (insert_key nat_cmp set i) (reached_insert i set), all_reached is (insert_key nat_cmp set i))

with_reached : (is set : List ℕ) → AllReached set is → with_indices set is ≡ set
with_reached [] set h = refl
with_reached (i ∷ is) set h = ap (λ (ks : List ℕ). with_indices ks is) (insert_reached i set h.0) ∙ with_reached is set h.1

-- the same indices a second time
pub with_again : (is set : List ℕ) → with_indices (with_indices set is) is ≡ with_indices set is
with_again is set = with_reached is (with_indices set is) (all_reached is set)

-- the first of some indices are the first of these and more
pub first_of_more : (is js old new : List ℕ) → AddsFirst is old new → AddsFirst (is ++ js) old new
first_of_more is js old new h =
    record { added = h.added; left = h.left ++ js; are = ap (λ (all : List ℕ). all ++ js) h.are ∙ append_assoc h.added h.left js; makes = h.makes }

-- after all of some indices came the first of others
pub first_after : (is js old mid new : List ℕ) → mid ≡ with_indices old is → AddsFirst js mid new → AddsFirst (is ++ js) old new
first_after is js old mid new e h =
    record {
      added = is ++ h.added;
      left = h.left;
      are = ap (λ (all : List ℕ). is ++ all) h.are ∙ sym (append_assoc is h.added h.left);
      makes = h.makes ∙ ap (λ (set : List ℕ). with_indices set h.added) e ∙ sym (with_indices-append old is h.added);
    }

-- all of both came
pub first_all : (is js old new : List ℕ) → new ≡ with_indices (with_indices old is) js → AddsFirst (is ++ js) old new
first_all is js old new e = record { added = is ++ js; left = []; are = sym (append-nil (is ++ js)); makes = e ∙ sym (with_indices-append old is js) }
