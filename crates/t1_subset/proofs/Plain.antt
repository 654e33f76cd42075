-- What calls within budgets answer.
use Rattle.std.proofs.Common.{◌≡◌, refl, sym, subst, inl, inr, ◌<◌, List, [], ◌∷◌, length, Result, Ok, Err, IfOk, IfErr, arith}
use Rattle.t1_font.specs.{FontValue.{FontValue}}
use Rattle.t1_algebra.specs.Merges.{ComesTo, DrawsAll}
use Rattle.t1_subset.specs.{declared.conflict.Conflict.{Conflict}, declared.conflict.Conflict.TheVariants.{Memory, Empty}, declared.budgets.BudgetFault.{BudgetFault}}
use Rattle.t1_subset.specs.declared.budgets.BudgetFault.TheVariants.{TooManyTokens, Plain}
use Rattle.t1_subset.specs.{Budgets.{OnPlain, IsMergerOf, IsMergerOfFonts}, Merger.{NotMerged, AcceptsAllJoin, MergesInAnyOrder, MergesAllSubsets}}
use Rattle.t1_subset.proofs.Answered.{of_all_subsets, accepts, draws_all, in_any_order}

module _ {A E : Type 0} where
  -- what follows from an answer without a budget
  pub plainly : (r : Result A (BudgetFault E)) (P Q : Result A E → Type 0) → ((r : Result A E) → P r → Q r) → OnPlain r P → OnPlain r Q
  plainly (Ok a) P Q f h = f (Ok a) h
  plainly (Err (Plain e)) P Q f h = f (Err e) h
  plainly (Err TooManyTokens) P Q f h = tt

  -- what is said of a value
  pub plain_ok : (r : Result A (BudgetFault E)) (P : A → Type 0) → OnPlain r (λ r. IfOk r P) → IfOk r P
  plain_ok (Ok a) P h = h
  plain_ok (Err e) P h = tt

-- what follows from a refusal without a budget
pub plain_err : (A B : Type 0) {E : Type 0} (e : BudgetFault E) (P Q : E → Type 0) → ((x : E) → P x → Q x) → OnPlain {A = A} (Err e) (λ r. IfErr r P) →
    OnPlain {A = B} (Err e) (λ r. IfErr r Q)
plain_err A B (Plain e) P Q f h = f e h
plain_err A B TooManyTokens P Q f h = tt

module _ (fs : List FontValue) (r : Result FontValue Conflict) where
  comes : IsMergerOf fs r → IfOk r (λ j. ComesTo fs j)
  comes = by r
    where
      by : (r : Result FontValue Conflict) → IsMergerOf fs r → IfOk r (λ j. ComesTo fs j)
      by (Ok j) h = h
      by (Err e) h = tt

  fails : IsMergerOf fs r → IfErr r (λ e. NotMerged fs e)
  fails = by r
    where
      by : (r : Result FontValue Conflict) → IsMergerOf fs r → IfErr r (λ e. NotMerged fs e)
      by (Ok j) h = tt
      by (Err e) h = h

  module _ (h : IsMergerOfFonts fs r) where
    -- the clauses of a merger of a list of fonts
    pub comes_answer : IfOk r (λ j. ComesTo fs j)
    comes_answer = comes h.0

    pub fails_answer : IfErr r (λ e. NotMerged fs e)
    fails_answer = fails h.0

    pub draws_answer : IfOk r (λ j. DrawsAll fs j)
    draws_answer = draws_all fs r (comes h.0)

    pub subsets_answer : MergesAllSubsets fs r
    subsets_answer = of_all_subsets fs r (comes h.0) (fails h.0)

    pub accepted_answer : AcceptsAllJoin fs r
    accepted_answer = elim h.1 [
      | inl m ↦ subst (AcceptsAllJoin fs) (sym m) (inl refl)
      | inr w ↦ accepts fs w r (comes h.0) (fails h.0)
    ]

    pub any_order_answer : MergesInAnyOrder fs r
    any_order_answer = elim h.1 [
      | inl m ↦ subst (MergesInAnyOrder fs) (sym m) (λ t p. inl refl)
      | inr w ↦ in_any_order fs w r (comes h.0) (fails h.0)
    ]

-- no font at all
pub no_fonts : (fs : List FontValue) → length fs ≡ 0 → IsMergerOfFonts fs (Err Empty)
no_fonts [] none = (refl, inr tt)
no_fonts (f ∷ fs) none = absurd (omega (arith, none))

-- memory is refused, where there are fonts
pub no_memory : (fs : List FontValue) → 0 < length fs → IsMergerOf fs (Err Memory)
no_memory [] some = absurd (omega (arith, some))
no_memory (f ∷ fs) some = inl refl
