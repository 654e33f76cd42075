-- How the states of a name clash in two tables.
use Rattle.std.specs.Prelude.{Bool, true, false, not, ◌&&◌, ◌||◌, [], ◌∷◌, Some, None, is_some}
use Rattle.t1_join.specs.{Meaning.{Meaning}, Join.{State}, TableMeaning.{TableMeaning}}
use Rattle.t1_algebra.specs.{StateTables.{behind_mark}, Conflicts.{agrees}}
use Rattle.std.specs.FinMap as maps

-- the name is sought
abbrev pub is_sought_in : State → Bool
is_sought_in None = false
is_sought_in (Some []) = true
is_sought_in (Some (mark ∷ c)) = false

-- both states are charstrings, and they differ
abbrev pub charstrings_differ : State → State → Bool
charstrings_differ x y = not (agrees (behind_mark x) (behind_mark y))

-- the name is sought, and the other state is a charstring
abbrev pub lacks : State → State → Bool
lacks x y = is_sought_in x && is_some (behind_mark y)

-- the name of one of both is sought, and the other has a charstring
abbrev pub one_lacks : State → State → Bool
one_lacks x y = lacks x y || lacks y x

-- the one table seeks the name of an entry, and the other has a glyph for it
abbrev pub lacks_in : TableMeaning → TableMeaning → Meaning × Meaning → Bool
lacks_in s t e = lacks (maps.get s e.0) (maps.get t e.0)
