-- The lines that list a font.
use Rattle.std.specs.{Prelude.{ℕ, List, [], ◌∷◌, ◌++◌, length, codes, Option, Some, None, Result, Ok}, Fmt.{decimal}, List.{flat_map}, FinMap.{entries}}
use Rattle.t1_font.specs.FontValue.{FontValue, Encoding, Word, Codes}
use Rattle.t1_cmd.specs.declared.faults.Reason.{Reason}
use Rattle.t1_join.specs.Shown.{shown}

-- a code and its name
abbrev pub code_line : ℕ → List ℕ → List ℕ
code_line code name = codes "code " ++ decimal code ++ codes " " ++ shown name ++ 10 ∷ []

-- a Subr and its plain length
abbrev pub subr_length_line : ℕ → List ℕ → List ℕ
subr_length_line index body = codes "subr " ++ decimal index ++ codes " " ++ decimal (length body) ++ 10 ∷ []

-- a glyph and its plain length
abbrev pub glyph_length_line : List ℕ → List ℕ → List ℕ
glyph_length_line name body = codes "glyph " ++ shown name ++ codes " " ++ decimal (length body) ++ 10 ∷ []

-- the line of a key that has a value; nothing for any other key
abbrev pub line_at : {K : Type 0} → (K → List ℕ → List ℕ) → K → Option (List ℕ) → List ℕ
line_at line key None = []
line_at line key (Some value) = line key value

-- the word, or each code upwards
abbrev pub encoding_lines : Encoding → List ℕ
encoding_lines (Word word) = codes "encoding " ++ shown word ++ 10 ∷ []
encoding_lines (Codes names) = flat_map (λ e. code_line e.0 e.1) (entries names)

-- the Encoding, the Subrs upwards by index, and the glyphs upwards by the bytes of their names
abbrev pub list_lines : FontValue → List ℕ
list_lines f =
    encoding_lines f.encoding ++ flat_map (λ e. subr_length_line e.0 e.1) (entries f.subrs) ++ flat_map (λ e. glyph_length_line e.0 e.1) (entries f.glyphs)

-- what `list` prints of a font
abbrev pub list_answer : FontValue → Result (List ℕ) Reason
list_answer f = Ok (list_lines f)
