-- The Subrs that glyphs execute, as sets of indices.
use Rattle.std.specs.{Prelude.{ℕ}, BTreeSet.{BTreeSet}}
use Rattle.t1_algebra.specs.Interpreter.{Numbers}
use Rattle.std.specs.FinSet as sets

-- a set of indices in memory
abbrev pub number_set : BTreeSet ℕ → Numbers
number_set s = sets.from_list s.keys
