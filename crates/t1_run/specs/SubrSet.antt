-- Indices that are in a list, told by place.
use Rattle.std.specs.{Prelude.{◌≡◌, ℕ, ◌==◌, Bool, false, List, get_or, if◌then◌else◌}, List.{count_by}}

-- What stands at the place of the index; past the end nothing is in.
abbrev pub is_in : List Bool → ℕ → Bool
is_in places i = get_or places i false

-- How often an index stands in a list.
abbrev pub times : List ℕ → ℕ → ℕ
times indices i = count_by (λ j. j == i) indices

-- An index that is in stands in the list once, and any other not at all.
abbrev pub AreListed : List Bool → List ℕ → Type 0
AreListed places indices = (i : ℕ) → times indices i ≡ (if is_in places i then 1 else 0)
