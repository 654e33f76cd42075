-- A document as stretches: what stands before its first mark, and each mark with what stands behind it.
use Rattle.std.specs.{Prelude.{◌≡◌, ℕ, true, false, List, [], ◌∷◌, ◌++◌, map, Option, Some, None}, List.{flat_map}}
use Rattle.t1_document.specs.{declared.marks.Mark.{Mark}, Lines.{lines_of, breaks}, Marks.{mark_of, has_mark}}

-- a mark, its line, and the text behind that line up to the next mark
pub record Stretch : Type 0 where
  pub mark : Mark
  pub line : List ℕ
  pub text : List ℕ

-- the text before the first mark, and the stretches behind it
abbrev pub Stretches : Type 0
Stretches = List ℕ × List Stretch

-- a line before stretches: a mark begins one, and any other line stands at the end of what is before them
abbrev pub at_line : List ℕ → Option Mark → Stretches → Stretches
at_line line None x = (line ++ x.0, x.1)
at_line line (Some mark) x = ([], record { mark = mark; line = line; text = x.0 } ∷ x.1)

-- the stretches of lines
abbrev pub gathered : List (List ℕ) → Stretches
gathered [] = ([], [])
gathered (line ∷ lines) = at_line line (mark_of line) (gathered lines)

-- the stretches of a text
unfoldable pub stretches : List ℕ → Stretches
stretches text = gathered (lines_of text)

-- the bytes of stretches
abbrev pub stretches_bytes : List Stretch → List ℕ
stretches_bytes ss = flat_map (λ s. s.line ++ s.text) ss

-- the text that stretches are those of
abbrev pub stretches_text : Stretches → List ℕ
stretches_text x = x.0 ++ stretches_bytes x.1

-- the mark of a stretch, and its line
abbrev pub marked_line : Stretch → Mark × List ℕ
marked_line s = (s.mark, s.line)

-- the marks of stretches, each with its line
abbrev pub mark_lines : List Stretch → List (Mark × List ℕ)
mark_lines ss = map marked_line ss

-- ---- which stretches are those of a text

-- A stretch before these bytes: its line is one whole line, and its mark; its text has no mark; a line ends between the line and what
-- follows it, and between the text and what follows that.
pub record IsStretch (s : Stretch) (behind : List ℕ) : Type 0 where
  pub mark : mark_of s.line ≡ Some s.mark
  pub whole : lines_of s.line ≡ s.line ∷ []
  pub unmarked : has_mark s.text ≡ false
  pub line_ends : breaks s.line (s.text ++ behind) ≡ true
  pub text_ends : breaks s.text behind ≡ true

-- each of these is one, before the bytes of those behind it
abbrev pub AreStretches : List Stretch → Type 0
AreStretches [] = Unit {0}
AreStretches (s ∷ ss) = IsStretch s (stretches_bytes ss) × AreStretches ss

-- the text before them has no mark, and a line ends behind it
pub record AreThose (x : Stretches) : Type 0 where
  pub unmarked : has_mark x.0 ≡ false
  pub front_ends : breaks x.0 (stretches_bytes x.1) ≡ true
  pub each : AreStretches x.1
