-- What the calls that merge answer.
use Rattle.std.specs.{Prelude.{◌≡◌, ◌⊎◌, List, [], ◌∷◌, ◌++◌, map, None, Result, MatchResult, IsPermutation}, List.{AllByRecursion}}
use Rattle.t1_join.specs.Groupings.{Grouping, one, leaves, from_left}
use Rattle.t1_font.specs.{FontValue.{FontValue}, IsFont.{IsFont}}
use Rattle.t1_algebra.specs.{Interpreter.{Names}, Keep.{subset, IsOf}, Profile.{profile}, States.{Join, joined_font}, Conflicts.{shell_conflict, conflict}, Groupings.{Merges, union_all}}
use Rattle.t1_algebra.specs.Merges.{AllJoin, MergesTo, MergesToNone}
use Rattle.t1_subset.specs.{declared.conflict.Conflict.{Conflict as Refusal}, declared.conflict.Conflict.TheVariants.{Memory, Empty}, Refusals.{Tells}}
use Rattle.std.specs.FinSet as sets

-- the fonts join and this is their join, or their lowest conflict is told, or a growth was refused
abbrev pub IsMerger : FontValue → FontValue → Result FontValue Refusal → Type 0
IsMerger f g r = MatchResult r (λ j. Join profile f g × (j ≡ joined_font profile f g)) (λ e. Tells e (conflict profile f g))

-- a font merged with itself is itself, or a growth was refused
abbrev pub MergesItself : FontValue → FontValue → Result FontValue Refusal → Type 0
MergesItself f g r = f ≡ g → MatchResult r (λ j. j ≡ f) (λ e. e ≡ Memory)

-- The fonts before one of the list merge to a font that does not join it, and the refusal tells the lowest conflict of the two.
pub record StopsAt (f : FontValue) (fs : List FontValue) (e : Refusal) : Type 0 where
  pub before : List FontValue
  pub font : FontValue
  pub after : List FontValue
  pub joined : FontValue
  pub list : fs ≡ before ++ font ∷ after
  pub merges : Merges profile (from_left (one f) before) joined
  pub tells : Tells e (conflict profile joined font)

-- the fonts are accepted exactly if all of them join, unless a growth was refused
abbrev pub AcceptsAllJoin : List FontValue → Result FontValue Refusal → Type 0
AcceptsAllJoin fs r = MatchResult r (λ j. AllJoin fs) (λ e. (e ≡ Memory) ⊎ ¬ AllJoin fs)

-- each order and grouping of the fonts comes to the font that is answered, or each comes to none, or a growth was refused
abbrev pub MergesInAnyOrder : List FontValue → Result FontValue Refusal → Type 0
MergesInAnyOrder fs r = (t : Grouping FontValue) → IsPermutation fs (leaves t) → MatchResult r (λ j. MergesTo t j) (λ e. (e ≡ Memory) ⊎ MergesToNone t)

-- the first two of these fonts, if there are two, share what they have to
abbrev pub FirstShare : List FontValue → Type 0
FirstShare [] = Unit {0}
FirstShare (f ∷ []) = Unit {0}
FirstShare (f ∷ g ∷ fs) = shell_conflict f g ≡ None

-- there are no fonts, or a growth was refused, or a font does not join those before it
abbrev pub NotMerged : List FontValue → Refusal → Type 0
NotMerged [] e = e ≡ Empty
NotMerged (f ∷ fs) e = (e ≡ Memory) ⊎ StopsAt f fs e

-- Two subsets of one font come to the subset over both sets of names, or a growth was refused.
abbrev pub MergesSubsets : FontValue → FontValue → Result FontValue Refusal → Type 0
MergesSubsets g h r = (f : FontValue) → IsFont f → (a b : Names) → IsOf f a → IsOf f b → g ≡ subset profile f a → h ≡ subset profile f b
    → MatchResult r (λ j. j ≡ subset profile f (sets.union a b)) (λ e. e ≡ Memory)

-- One or more subsets of one font come to the subset over all the sets of names, or a growth was refused.
abbrev pub MergesAllSubsets : List FontValue → Result FontValue Refusal → Type 0
MergesAllSubsets fs r =
    (f : FontValue) → IsFont f → (a : Names) (more : List Names) → AllByRecursion (IsOf f) (a ∷ more) → fs ≡ map (subset profile f) (a ∷ more)
    → MatchResult r (λ j. j ≡ subset profile f (union_all (a ∷ more))) (λ e. e ≡ Memory)
