-- The join of two fonts as the entries of both: what merging does once nothing is in conflict.
use Rattle.std.specs.Prelude.{◌≡◌, ℕ, cond, List, Option, Some, None}
use Rattle.t1_font.specs.{FontValue.{FontValue}, Encodings.{SameKind}}
use Rattle.t1_algebra.specs.States.{Agree, code_state, is_stub}
use Rattle.std.specs.FinMap as maps

-- an entry, or nothing if it is a stub
abbrev pub past_stub : Option (List ℕ) → Option (List ℕ)
past_stub None = None
past_stub (Some c) = cond (is_stub c) None (Some c)

-- the entries of two fonts make a join: the shells are equal, the same Subrs are present, the Encodings are the same word or both tables, and entries that both
-- have are the same, except for a Subr that is a stub in one font
pub record EntriesJoin (f g : FontValue) : Type 0 where
  pub shells : f.shell ≡ g.shell
  pub present : (i : ℕ) → maps.contains_key f.subrs i ≡ maps.contains_key g.subrs i
  pub kinds : SameKind f.encoding g.encoding
  pub subrs : (i : ℕ) → Agree (past_stub (maps.get f.subrs i)) (past_stub (maps.get g.subrs i))
  pub glyphs : (n : List ℕ) → Agree (maps.get f.glyphs n) (maps.get g.glyphs n)
  pub codes : (c : ℕ) → Agree (code_state f.encoding c) (code_state g.encoding c)
