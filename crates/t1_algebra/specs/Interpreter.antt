-- Sets of names and of indices, and what subsets and merges ask of an interpreter of charstrings.
use Rattle.std.specs.{Prelude.{◌≡◌, ℕ, Bool, true, List}, Ordering.{nat_cmp, is_eq}}
use Rattle.t1_font.specs.FontValue.{SparseArray, name_cmp}
use Rattle.std.specs.FinMap as maps
use Rattle.std.specs.FinSet as sets

-- a set of glyph names
abbrev pub Names : Type 0
Names = sets.FinSet name_cmp

-- a set of indices of Subrs
abbrev pub Numbers : Type 0
Numbers = sets.FinSet nat_cmp

-- two byte strings are the same
abbrev pub same_bytes : List ℕ → List ℕ → Bool
same_bytes a b = is_eq (name_cmp a b)

-- An interpreter: what a charstring comes to in a font of these Subrs, the indices that it executes, and the components that an outcome names; it depends on no
-- Subr but those that it executes.
pub record Interpreter (O : Type 0) : Type 0 where
  pub direct : SparseArray → List ℕ → O
  pub exec : SparseArray → List ℕ → Numbers
  pub names : O → List (List ℕ)
  pub local : (s t : SparseArray) (c : List ℕ) → ((i : ℕ) → sets.contains (exec s c) i ≡ true → maps.get t i ≡ maps.get s i) →
      (direct t c ≡ direct s c) × (exec t c ≡ exec s c)
