-- The lines that `list` adds in full: what the font's dictionary says, and the widths of the glyphs.
use Rattle.std.specs.{Prelude.{ℕ, ◌==◌, ◌||◌, not, Bool, false, List, [], ◌∷◌, ◌++◌, codes, Option, Some, None, Result, Ok, if◌then◌else◌}, List.{flat_map}, FinMap.{get}}
use Rattle.t1_grammar.specs.Grammar.{fixed}
use Rattle.t1_bytes.specs.White.{is_white}
use Rattle.t1_run.specs.Drawings.{Picture, Drawn, Undrawn, draw}
use Rattle.t1_font.specs.{FontValue.{FontValue, names_in}, FontModel.{subr_at}}
use Rattle.t1_join.specs.{Shown.{shown}, ListingMeaning.{ends_name}}
use Rattle.t1_cmd.specs.{declared.faults.Reason.{Reason}, DrawingText.{line, draw_fault_line}, ListText.{list_lines}}

-- ---- what the dictionary says

-- a word goes on here
abbrev pub name_goes_on : List ℕ → Bool
name_goes_on [] = false
name_goes_on (b ∷ bs) = not (ends_name b)

-- what stands behind a key that comes here as a whole word, or else what is found later
abbrev pub behind_or : Option (List ℕ × List ℕ) → Option (List ℕ) → Option (List ℕ)
behind_or (Some x) later = if name_goes_on x.1 then later else Some x.1
behind_or None later = later

-- what stands behind the first place of a key
abbrev pub text_behind : List ℕ → List ℕ → Option (List ℕ)
text_behind key [] = None
text_behind key (b ∷ bs) = behind_or ((fixed key).read (b ∷ bs)) (text_behind key bs)

-- the first, or else the second
abbrev pub first_some : Option (List ℕ) → Option (List ℕ) → Option (List ℕ)
first_some (Some x) other = Some x
first_some None other = other

-- what stands behind a key in the clear text before the Encoding, or else in that behind it
abbrev pub behind_clear : List ℕ → FontValue → Option (List ℕ)
behind_clear key f = first_some (text_behind key f.shell.head) (text_behind key f.shell.clear_tail)

-- a byte of a value, as it is printed: white space as a blank, and others as in names
abbrev pub value_byte : ℕ → List ℕ
value_byte b = if is_white b then 32 ∷ [] else shown (b ∷ [])

-- the bytes of a value, as they are printed, up to one that ends it
abbrev pub value_text : (ℕ → Bool) → List ℕ → List ℕ
value_text ends [] = []
value_text ends (b ∷ bs) = if ends b then [] else value_byte b ++ value_text ends bs

-- a bracket or brace that opens; that closes
abbrev pub opens : ℕ → Bool
opens b = b == 91 || b == 123

abbrev pub closes_name : ℕ → Bool
closes_name b = b == 93 || b == 125

-- a value: what stands within brackets or braces, or behind a slash, or a word
abbrev pub value_at : List ℕ → List ℕ
value_at [] = []
value_at (b ∷ bs) = if opens b then value_text closes_name bs else if b == 47 then value_text ends_name bs else value_text ends_name (b ∷ bs)

-- a text without the white space at its front
abbrev pub past_white : List ℕ → List ℕ
past_white [] = []
past_white (b ∷ bs) = if is_white b then past_white bs else b ∷ bs

-- the line of a value, if it has bytes
abbrev pub valued : List ℕ → List ℕ → List ℕ
valued word [] = []
valued word (b ∷ bs) = word ++ (b ∷ bs) ++ 10 ∷ []

-- the line of a value that stands behind a key, if the key is there and has one
abbrev pub value_line : List ℕ → Option (List ℕ) → List ℕ
value_line word None = []
value_line word (Some text) = valued word (value_at (past_white text))

-- the line of a key of the clear text
abbrev pub clear_line : List ℕ → List ℕ → FontValue → List ℕ
clear_line word key f = value_line word (behind_clear key f)

-- the line of the UniqueID, which may stand in the private text
abbrev pub unique_line : FontValue → List ℕ
unique_line f = value_line (codes "unique ") (first_some (behind_clear (codes "/UniqueID") f) (text_behind (codes "/UniqueID") f.shell.private))

-- the font's name, its FontMatrix, its FontBBox and its UniqueID
abbrev pub dictionary_lines : FontValue → List ℕ
dictionary_lines f =
    clear_line (codes "name ") (codes "/FontName") f ++ clear_line (codes "matrix ") (codes "/FontMatrix") f
    ++ clear_line (codes "box ") (codes "/FontBBox") f ++ unique_line f

-- ---- widths

-- how wide a drawing is, or why there is none
abbrev pub width_told : Picture → List ℕ
width_told (Drawn m parts) = line [] (m.width.x ∷ m.width.y ∷ [])
width_told (Undrawn fault) = 32 ∷ draw_fault_line fault

-- the width of a glyph, by drawing it
abbrev pub width_line : FontValue → List ℕ → List ℕ
width_line f name = codes "width " ++ shown name ++ width_told (draw (subr_at f) (get f.glyphs) name)

-- what `list` prints, then the dictionary, and then the widths in the order of the glyphs
abbrev pub full_lines : FontValue → List ℕ
full_lines f = list_lines f ++ dictionary_lines f ++ flat_map (width_line f) (names_in f.glyphs)

-- what `list --full` prints of a font
abbrev pub full_answer : FontValue → Result (List ℕ) Reason
full_answer f = Ok (full_lines f)
