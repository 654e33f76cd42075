-- Calls that are within their budgets, by the tokens that they take.
use Rattle.std.proofs.Common.{◌≡◌, refl, sym, ap, subst, ◌⊎◌, inl, inr, not, cond, ℕ, List, [], ◌∷◌, Option, Some, None}
use Rattle.std.specs.{Option.{is_some}, List.{find}}
use Rattle.t1_run.specs.{declared.budget.Stop.{Stop}, Budgets.{HasFewer}}
use Rattle.t1_font.specs.FontValue.{FontValue}
use Rattle.t1_algebra.specs.{Keep.{has}, Conflicts.{shell_conflict}, Shared.{ShellPart}}
use Rattle.t1_subset.specs.{declared.conflict.Conflict.{Conflict}, declared.conflict.Conflict.TheVariants.{Memory}, Merger.{FirstShare}}
use Rattle.t1_subset.specs.Budgets.{fonts_tokens, merge_tokens, kept_tokens, subset_tokens, IsEnough, RefusedWithin, StoppedWithin, stopped}
use Rattle.t1_subset.proofs.Tokens.{none_enough}
use Rattle.t1_run.specs.declared.budget.Stop.TheVariants as stop
use Rattle.std.specs.FinSet as sets

-- a run stopped
pub stopped_within : {E : Type 0} (memory : E) (left : Option ℕ) (tokens : ℕ) (s : Stop) → (s ≡ stop.TooManyTokens → HasFewer left tokens) →
    RefusedWithin memory left tokens (stopped s memory)
stopped_within memory left tokens stop.TooManyTokens h = h refl
stopped_within memory left tokens stop.Memory h = inl refl

-- the same of a call that is refused only where runs are
pub stops_within : (left : Option ℕ) (tokens : ℕ) (s : Stop) → (s ≡ stop.TooManyTokens → HasFewer left tokens) → StoppedWithin left tokens s
stops_within left tokens stop.TooManyTokens h = h refl
stops_within left tokens stop.Memory h = tt

-- ---- mergers

-- the first two fonts don't share what they have to, which no run tells, or memory is refused
pub not_shared : (left : Option ℕ) (fs : List FontValue) (e : Conflict) → (FirstShare fs → e ≡ Memory) → (e ≡ Memory) ⊎ IsEnough left (merge_tokens fs)
not_shared left [] e h = inl (h tt)
not_shared left (f ∷ []) e h = inl (h tt)
not_shared left (f ∷ g ∷ fs) e h = by (shell_conflict f g) refl
  where
    by : (o : Option ShellPart) → shell_conflict f g ≡ o → (e ≡ Memory) ⊎ IsEnough left (merge_tokens (f ∷ g ∷ fs))
    by None is = inl (h is)
    by (Some p) is = inr (subst (λ o. IsEnough left (cond (is_some o) 0 (fonts_tokens (f ∷ g ∷ fs)))) (sym is) (none_enough left))

-- where they share it, the glyphs of all fonts are run
shared_tokens : (fs : List FontValue) → FirstShare fs → merge_tokens fs ≡ fonts_tokens fs
shared_tokens [] h = refl
shared_tokens (f ∷ []) h = refl
shared_tokens (f ∷ g ∷ fs) h = ap (λ o. cond (is_some o) 0 (fonts_tokens (f ∷ g ∷ fs))) h

pub shared_enough : (left : Option ℕ) (fs : List FontValue) → FirstShare fs → IsEnough left (fonts_tokens fs) → IsEnough left (merge_tokens fs)
shared_enough left fs h k = subst (IsEnough left) (sym (shared_tokens fs h)) k

pub shared_fewer : (left : Option ℕ) (fs : List FontValue) → FirstShare fs → HasFewer left (fonts_tokens fs) → HasFewer left (merge_tokens fs)
shared_fewer left fs h k = subst (HasFewer left) (sym (shared_tokens fs h)) k

-- no fonts are merged without a run
pub no_fonts_enough : (left : Option ℕ) (fs : List FontValue) → fs ≡ [] → IsEnough left (merge_tokens fs)
no_fonts_enough left fs none = subst (λ (fs : List FontValue). IsEnough left (merge_tokens fs)) (sym none) (none_enough left)

-- ---- subsets

module _ (left : Option ℕ) (f : FontValue) (names : List (List ℕ)) where
  abbrev absent : Option (List ℕ)
  absent = find (λ n. not (has f n)) names

  tokens_by : Option (List ℕ) → ℕ
  tokens_by first = cond (is_some first) 0 (kept_tokens f (sets.from_list names))

  -- a name is absent, which no run tells
  pub absent_enough : (n : List ℕ) → absent ≡ Some n → IsEnough left (subset_tokens f names)
  unfolding tokens_by
  absent_enough n is = subst (λ o. IsEnough left (tokens_by o)) (sym is) (none_enough left)

  -- where none is, the glyphs that are kept are run
  pub present_enough : absent ≡ None → IsEnough left (kept_tokens f (sets.from_list names)) → IsEnough left (subset_tokens f names)
  unfolding tokens_by
  present_enough none h = subst (λ o. IsEnough left (tokens_by o)) (sym none) h

  pub present_fewer : absent ≡ None → HasFewer left (kept_tokens f (sets.from_list names)) → HasFewer left (subset_tokens f names)
  unfolding tokens_by
  present_fewer none h = subst (λ o. HasFewer left (tokens_by o)) (sym none) h
