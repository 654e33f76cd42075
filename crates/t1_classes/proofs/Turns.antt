-- The groups of files, one turn after the other.
use Rattle.std.proofs.Common.{◌≡◌, ◌<◌, ◌≤◌, ◌+◌, ◌-◌, ℕ, zero, suc, nat_eq, Bool, true, false, List, [], ◌∷◌, ◌++◌, length, refl, sym, ap, ◌∙◌, arith, append_assoc}
use Rattle.std.proofs.lemmas.{Bool.{eqb-true, true≢false}, List.{map-append}}
use Rattle.std.specs.{Borrow.{Bor}, Global.{Vec}}
use Rattle.t1_classes.specs.{Partition.{File, Fit, singles, group_before, fitted, groups_from}, Views.{lent, group_lists}}

-- one group more
pub grown : (groups : List (Vec (Bor (List ℕ)))) (g : Vec (Bor (List ℕ))) → group_lists (groups ++ g ∷ []) ≡ group_lists groups ++ lent g.items ∷ []
grown groups g = map-append (λ (h : Vec (Bor (List ℕ))). lent h.items) groups (g ∷ [])

module _ (joins : List File → Bool) (m : ℕ) (left : List File) (fit : Fit) (is : fit ≡ fitted joins (length left) [] left) where
  -- what a turn makes
  turned : groups_from joins (suc m) left ≡ group_before fit.group fit.left (groups_from joins m fit.left)
  unfolding groups_from
  turned = ap (λ (f : Fit). group_before f.group f.left (groups_from joins m f.left)) (sym is)

  -- files that are fitted make a group
  pub turns : 0 < length fit.group → groups_from joins (suc m) left ≡ fit.group ∷ groups_from joins m fit.left
  turns some = turned ∙ by_group fit.group some
    where
      by_group : (g : List File) → 0 < length g → group_before g fit.left (groups_from joins m fit.left) ≡ g ∷ groups_from joins m fit.left
      by_group [] h = absurd (omega (arith, h))
      by_group (f ∷ fs) h = refl

  -- where none is, each is by itself
  pub ends : length fit.group ≡ 0 → groups_from joins (suc m) left ≡ singles fit.left
  ends none = turned ∙ by_group fit.group none
    where
      by_group : (g : List File) → length g ≡ 0 → group_before g fit.left (groups_from joins m fit.left) ≡ singles fit.left
      by_group [] h = refl
      by_group (f ∷ fs) h = absurd (omega (arith, h))

module _ (joins : List File → Bool) (done : List (List File)) (k i : ℕ) (less : i < k) (whole : List (List File))
    (left : List File) (fit : Fit) (is : fit ≡ fitted joins (length left) [] left) (so_far : done ++ groups_from joins (k - i) left ≡ whole) where
  step : k - i ≡ suc (k - (i + 1))
  step = omega (arith, less)

  here : done ++ groups_from joins (suc (k - (i + 1))) left ≡ whole
  here = ap (λ (n : ℕ). done ++ groups_from joins n left) (sym step) ∙ so_far

  -- a turn that makes a group
  pub turn_more : 0 < length fit.group → (done ++ fit.group ∷ []) ++ groups_from joins (k - (i + 1)) fit.left ≡ whole
  turn_more some = append_assoc done (fit.group ∷ []) (groups_from joins (k - (i + 1)) fit.left)
      ∙ (ap (λ (l : List (List File)). done ++ l) (sym (turns joins (k - (i + 1)) left fit is some)) ∙ here)

  -- the last turn
  pub turn_last : length fit.group ≡ 0 → done ++ singles fit.left ≡ whole
  turn_last none = ap (λ (l : List (List File)). done ++ l) (sym (ends joins (k - (i + 1)) left fit is none)) ∙ here

-- where as many turns were made as there are files, each that is left is by itself
pub no_turn : (joins : List File → Bool) (done : List (List File)) (k i : ℕ) → k ≤ i → (whole : List (List File)) (left : List File) →
    done ++ groups_from joins (k - i) left ≡ whole → done ++ singles left ≡ whole
unfolding groups_from
no_turn joins done k i le whole left h = ap (λ (n : ℕ). done ++ groups_from joins n left) (sym none) ∙ h
  where
    none : k - i ≡ 0
    none = omega (arith, le)

-- a test whether a number is zero
pub is_zero : (n : ℕ) (b : Bool) → b ≡ nat_eq n 0 → b ≡ true → n ≡ 0
is_zero n b e t = eqb-true n 0 (sym e ∙ t)

pub not_zero : (n : ℕ) (b : Bool) → b ≡ nat_eq n 0 → b ≡ false → 0 < n
not_zero zero b e f = absurd (true≢false (sym e ∙ f))
not_zero (suc n) b e f = omega arith
