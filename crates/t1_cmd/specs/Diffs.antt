-- What the engine that compares two fonts writes.
use Rattle.std.specs.{Prelude.{◌≡◌, ◌↔◌, ℕ, Bool, true, List, [], ◌∷◌, ◌++◌, Result, Ok}, List.{flat_map}}
use Rattle.t1_font.specs.FontValue.{FontValue}
use Rattle.t1_algebra.specs.{Profile.{profile}, States.{Join}, Conflicts.{conflicts}}
use Rattle.t1_subset.specs.{declared.conflict.Conflict.{Conflict}, FaultTexts.{conflict_text}, Refusals.{TellEach}}
use Rattle.t1_cmd.specs.declared.faults.Reason.{Reason}

-- the line of a conflict
abbrev pub conflict_line : Conflict → List ℕ
conflict_line e = conflict_text e ++ 10 ∷ []

-- the text has a line for each conflict of the two fonts, in their order
abbrev pub ListsConflicts : FontValue → FontValue → List ℕ → Type 0
ListsConflicts f g text = (es : List Conflict) × TellEach es (conflicts profile f g) × (text ≡ flat_map conflict_line es)

-- two fonts are answered with the lines of their conflicts
abbrev pub DiffersBy : List FontValue → Result (List ℕ) Reason → Type 0
DiffersBy (f ∷ g ∷ []) (Ok text) = ListsConflicts f g text
DiffersBy fonts answer = ⊥

-- this says whether two fonts join
abbrev pub SaysJoin : Bool → List FontValue → Type 0
SaysJoin joins (f ∷ g ∷ []) = (joins ≡ true) ↔ Join profile f g
SaysJoin joins fonts = ⊥
