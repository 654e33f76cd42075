-- Budgets of tokens, and what runs take out of them.
use Rattle.std.specs.{Prelude.{◌≡◌, ℕ, ◌+◌, ◌-◌, ◌<◌, ◌≤◌, min, Bool, true, false, cond, List, length, Option, None, Some}, List.{list_any}}
use Rattle.t1_run.specs.{declared.answer.Hints.{Hints}, declared.answer.Hints.TheVariants.{Replaced, Kept}, declared.answer.Mark.{Mark}}
use Rattle.t1_run.specs.{State.{token_limit}, Run.{Subrs, run_glyph, marks_made}}
use Rattle.t1_run.specs.declared.answer.Mark.TheVariants as mark

-- The tokens that a charstring executes, by what the pop after OtherSubr 3 gives.
abbrev pub tokens_by : Hints → Subrs → List ℕ → ℕ
tokens_by hints subrs c = length (run_glyph subrs hints c).visits

-- A mark says that other hints follow, which OtherSubr 3 does.
abbrev pub is_replace : Mark → Bool
is_replace mark.Replace = true
is_replace _ = false

-- A charstring replaces hints: some token of its run is OtherSubr 3.
abbrev pub replaces_hints : Hints → Subrs → List ℕ → Bool
replaces_hints hints subrs c = list_any is_replace (marks_made hints subrs c)

-- The tokens that a charstring takes: those of its run where hints are replaced, and if it replaces hints, those of its run where they are kept.
abbrev pub tokens_of : Subrs → List ℕ → ℕ
tokens_of subrs c = tokens_by Replaced subrs c + cond (replaces_hints Replaced subrs c) (tokens_by Kept subrs c) 0

-- So many tokens were taken out of what was left, and no others; where tokens aren't counted, they still aren't.
abbrev pub Spends : ℕ → Option ℕ → Option ℕ → Type 0
Spends tokens None None = Unit {0}
Spends tokens (Some old) (Some new) = new + tokens ≡ old
Spends tokens _ _ = ⊥

-- Fewer tokens are left than these.
abbrev pub HasFewer : Option ℕ → ℕ → Type 0
HasFewer None tokens = ⊥
HasFewer (Some left) tokens = left < tokens

-- Fewer tokens were left than these, and now none is.
abbrev pub RunsOut : ℕ → Option ℕ → Option ℕ → Type 0
RunsOut tokens old new = HasFewer old tokens × (new ≡ Some 0)

-- No more tokens are left than before; where tokens aren't counted, they still aren't.
abbrev pub NoMore : Option ℕ → Option ℕ → Type 0
NoMore None None = Unit {0}
NoMore (Some old) (Some new) = new ≤ old
NoMore _ _ = ⊥

-- The tokens that a run may execute: as many as its own limit allows, or all that are left where these are fewer.
abbrev pub allowed_by : Option ℕ → ℕ
allowed_by None = token_limit
allowed_by (Some left) = min left token_limit

-- What is left after so many tokens.
abbrev pub less : Option ℕ → ℕ → Option ℕ
less None tokens = None
less (Some left) tokens = Some (left - tokens)
