-- The names at which two tables of glyphs differ.
use Rattle.std.specs.{Prelude.{◌≡◌, List, ℕ, Some, MatchOption}, declared.cmp.Ordering.TheVariants.{Less}, FinMap.{get}}
use Rattle.t1_font.specs.{FontValue.{CharStrings, name_cmp}, Joins.{differing_name}}

-- both tables have a glyph of this name, with different charstrings
pub record DifferAt (m n : CharStrings) (name : List ℕ) : Type 0 where
  pub first : List ℕ
  pub second : List ℕ
  pub here : get m name ≡ Some first
  pub there : get n name ≡ Some second
  pub apart : ¬ (first ≡ second)

-- the tables differ at this name, and at none below it
pub record IsFirstDiffering (m n : CharStrings) (name : List ℕ) : Type 0 where
  pub differs : DifferAt m n name
  pub none_lower : (lower : List ℕ) → name_cmp lower name ≡ Less → ¬ DifferAt m n lower

-- the name that one pass over two tables meets is the smallest at which they differ, and it meets none exactly if there is none
abbrev pub MeetsSmallest : Type 0
MeetsSmallest = (m n : CharStrings) → MatchOption (differing_name m n) ((name : List ℕ) → ¬ DifferAt m n name) (IsFirstDiffering m n)
