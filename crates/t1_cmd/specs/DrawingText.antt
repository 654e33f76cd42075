-- The lines of a drawing.
use Rattle.std.specs.{Prelude.{ℕ, ◌+◌, ◌/◌, ◌%◌, ℤ, pos, negsuc, List, [], ◌∷◌, ◌++◌, codes, Result, Ok, Err, if◌then◌else◌, ◌==◌}, Fmt.{decimal}, List.{flat_map}, FinMap.{get}}
use Rattle.t1_run.specs.{declared.answer.Point.{Point}, declared.answer.Mark.{Mark}, declared.answer.DrawFault.{DrawFault}, declared.answer.DrawFault.TheVariants.{NoGlyph}}
use Rattle.t1_run.specs.{FaultNames.{fault_name}, Drawings.{Picture, Drawn, Undrawn, draw}}
use Rattle.t1_font.specs.{FontValue.{FontValue}, FontModel.{subr_at}}
use Rattle.t1_cmd.specs.declared.faults.Reason.{Reason}
use Rattle.t1_run.specs.declared.answer.Mark.TheVariants as mark
use Rattle.t1_cmd.specs.declared.faults.Reason.TheVariants as reason

-- this many 1/65536 of a unit: whole units as a decimal, any other as the count
abbrev pub amount : ℕ → List ℕ
amount n = if n % 65536 == 0 then decimal (n / 65536) else decimal n ++ codes "/65536"

-- a number that is a count of 1/65536 unit
abbrev pub unit_number : ℤ → List ℕ
unit_number (pos n) = amount n
unit_number (negsuc n) = 45 ∷ amount (n + 1)

-- each number, after a blank
abbrev pub numbers : List ℤ → List ℕ
numbers ns = flat_map (λ n. 32 ∷ unit_number n) ns

-- a word and its numbers
abbrev pub line : List ℕ → List ℤ → List ℕ
line word ns = word ++ numbers ns ++ 10 ∷ []

abbrev pub mark_line : Mark → List ℕ
mark_line (mark.Move p) = line (codes "move") (p.x ∷ p.y ∷ [])
mark_line (mark.Line p) = line (codes "line") (p.x ∷ p.y ∷ [])
mark_line (mark.Curve c) = line (codes "curve") (c.first.x ∷ c.first.y ∷ c.second.x ∷ c.second.y ∷ c.end.x ∷ c.end.y ∷ [])
mark_line mark.Close = line (codes "close") []
mark_line (mark.Hstem y dy) = line (codes "hstem") (y ∷ dy ∷ [])
mark_line (mark.Vstem x dx) = line (codes "vstem") (x ∷ dx ∷ [])
mark_line (mark.Hstem3 a b c d e f) = line (codes "hstem3") (a ∷ b ∷ c ∷ d ∷ e ∷ f ∷ [])
mark_line (mark.Vstem3 a b c d e f) = line (codes "vstem3") (a ∷ b ∷ c ∷ d ∷ e ∷ f ∷ [])
mark_line mark.Dot = line (codes "dot") []
mark_line mark.Replace = line (codes "replace") []
mark_line (mark.Flex height) = line (codes "flex") (height ∷ [])

-- a text, with the line of one more mark at its end
abbrev pub with_mark_line : List ℕ → Mark → List ℕ
with_mark_line text m = text ++ mark_line m

-- a part: its offset, and a line for each mark
abbrev pub part_lines : Point × List Mark → List ℕ
part_lines part = line (codes "part") (part.0.x ∷ part.0.y ∷ []) ++ flat_map mark_line part.1

-- a glyph: its width, its side bearing, and its parts
abbrev pub drawn_lines : (width bearing : Point) → List (Point × List Mark) → List ℕ
drawn_lines width bearing parts =
    line (codes "width") (width.x ∷ width.y ∷ []) ++ line (codes "bearing") (bearing.x ∷ bearing.y ∷ []) ++ flat_map part_lines parts

-- the line of a drawing's fault
abbrev pub draw_fault_line : DrawFault → List ℕ
draw_fault_line fault = codes "fault " ++ fault_name fault ++ 10 ∷ []

-- a drawing's lines, or the line of its fault; a glyph that the font lacks is refused by its name
abbrev pub picture_answer : List ℕ → Picture → Result (List ℕ) Reason
picture_answer name (Drawn m parts) = Ok (drawn_lines m.width m.bearing parts)
picture_answer name (Undrawn NoGlyph) = Err (reason.NoGlyph name)
picture_answer name (Undrawn fault) = Ok (draw_fault_line fault)

-- what the glyph of a name draws in a font
abbrev pub show_answer : List ℕ → FontValue → Result (List ℕ) Reason
show_answer name f = picture_answer name (draw (subr_at f) (get f.glyphs) name)
