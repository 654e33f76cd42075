-- What commands answer within a budget of tokens.
use Rattle.std.specs.Prelude.{◌≡◌, ◌⊎◌, ℕ, List, Option, Result, Err}
use Rattle.t1_bytes.specs.declared.form.Form.{Form}
use Rattle.t1_run.specs.Budgets.{HasFewer}
use Rattle.t1_font.specs.{FontValue.{FontValue}, Normalizing.{normalized_shells}}
use Rattle.t1_subset.specs.Budgets.{subset_tokens, fonts_tokens, merge_tokens, rejoin_tokens, IsEnough}
use Rattle.t1_cmd.specs.{declared.faults.Reason.{Reason}, declared.faults.Reason.TheVariants.{TooManyTokens}, Answers.{OfThere}, Mergers.{MergesToFile}, Rejoins.{RejoinsTo}}
use Rattle.t1_cmd.specs.{Diffs.{DiffersBy}, Subsets.{names_with, subset_answer}}
use Rattle.t1_subset.specs.{declared.budgets.BudgetFault.{BudgetFault}, declared.fault.RejoinFault.{RejoinFault}, Rejoins.{NotRejoined}}
use Rattle.t1_subset.specs.{declared.fault.RejoinFault.TheVariants.{Merge}, declared.conflict.Conflict.TheVariants.{Memory}}
use Rattle.t1_subset.specs.declared.budgets.BudgetFault.TheVariants as budget

-- What is answered by that which takes so many tokens: too many tokens, where fewer are left; or what is answered without a budget, where they are left.
abbrev pub Within : Option ℕ → ℕ → (Result (List ℕ) Reason → Type 0) → Result (List ℕ) Reason → Type 0
Within left tokens Plain (Err TooManyTokens) = HasFewer left tokens
Within left tokens Plain answer = Plain answer × IsEnough left tokens

-- what fonts merge to
abbrev pub MergesWithin : Option ℕ → Form → List FontValue → Result (List ℕ) Reason → Type 0
MergesWithin left form fonts = Within left (merge_tokens fonts) (MergesToFile form fonts)

-- what fonts rejoin to, whose glyphs are run before the fonts are filled
abbrev pub RejoinsWithin : Option ℕ → Form → List FontValue → Result (List ℕ) Reason → Type 0
RejoinsWithin left form fonts = Within left (rejoin_tokens (normalized_shells fonts)) (RejoinsTo form fonts)

-- why fonts with normalized texts don't rejoin, where want of memory may be told whatever is left
abbrev pub NotRejoinedWithin : Option ℕ → List FontValue → BudgetFault RejoinFault → Type 0
NotRejoinedWithin left fonts budget.TooManyTokens = HasFewer left (rejoin_tokens fonts)
NotRejoinedWithin left fonts (budget.Plain fault) = NotRejoined fonts fault × ((fault ≡ Merge Memory) ⊎ IsEnough left (rejoin_tokens fonts))

-- the lines of all conflicts of two fonts
abbrev pub DiffersWithin : Option ℕ → List FontValue → Result (List ℕ) Reason → Type 0
DiffersWithin left fonts = Within left (fonts_tokens fonts) (DiffersBy fonts)

-- the subset of these names
abbrev pub CutsWithin : Option ℕ → Form → List (List ℕ) → FontValue → Result (List ℕ) Reason → Type 0
CutsWithin left form names f = Within left (subset_tokens f names) (λ answer. answer ≡ subset_answer form names f)

-- the subset of these names and of the names of these codes
abbrev pub SubsetsWithin : Option ℕ → Form → List (List ℕ) → List ℕ → FontValue → Result (List ℕ) Reason → Type 0
SubsetsWithin left form names numbers f = OfThere (λ all. CutsWithin left form all f) (names_with f.encoding names numbers)
