-- The line that tells of a font that reads.
use Rattle.std.specs.{Prelude.{ℕ, List, [], ◌∷◌, ◌++◌, codes, Result, Ok}, Fmt.{decimal}, FinMap.{len}}
use Rattle.t1_font.specs.FontValue.{FontValue, weight}
use Rattle.t1_cmd.specs.declared.faults.Reason.{Reason}

-- how many glyphs, how many Subrs that are present, and the weight
abbrev pub check_text : FontValue → List ℕ
check_text f = codes "ok " ++ decimal (len f.glyphs) ++ codes " glyphs, " ++ decimal (len f.subrs) ++ codes " subrs, weight " ++ decimal (weight f) ++ 10 ∷ []

-- what `check` prints of a font
abbrev pub check_answer : FontValue → Result (List ℕ) Reason
check_answer f = Ok (check_text f)

-- the same line behind the path of the font
abbrev pub check_answer_of : List ℕ → FontValue → Result (List ℕ) Reason
check_answer_of path f = Ok (path ++ codes ": " ++ check_text f)
