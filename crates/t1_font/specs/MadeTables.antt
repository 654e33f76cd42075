-- Sparse arrays and the tables of a join, by number.
use Rattle.std.specs.{Prelude.{ℕ, List, map, unwrap_or}, FinMap.{from_sorted, entries, get}}
use Rattle.t1_join.specs.{Meaning.{of_number}, TableMeaning.{TableMeaning}}
use Rattle.t1_font.specs.{FontValue.{SparseArray}, Cut.{stub}}

-- a map by number, as a table
abbrev pub numbered : SparseArray → TableMeaning
numbered m = from_sorted (map (λ e. (of_number e.0, e.1)) (entries m))

-- the entry of a table at an index, or a stub where it has none
abbrev pub entry_or_stub : TableMeaning → ℕ → List ℕ
entry_or_stub t i = unwrap_or (get t (of_number i)) stub
