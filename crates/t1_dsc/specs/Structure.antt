-- The lines of a document, and what they are in its structure (Adobe's Document Structuring Conventions 3.0).
use Rattle.std.specs.{Prelude.{ℕ, ◌==◌, ◌&&◌, ◌||◌, Bool, true, false, List, [], ◌∷◌, codes, Option, Some, None, if◌then◌else◌}}
use Rattle.t1_document.specs.{declared.marks.Mark.{Mark}, declared.marks.Open.{Open}, Lines.{lines_of}, Marks.{begins_with, mark_of}, Documents.{none_open, open_behind}}
use Rattle.t1_dsc.specs.{declared.lines.Role.{Role}, declared.lines.Role.TheVariants.{Text, Page, Trailer, SetupEnd, Structure}}

-- ---- what a line is

-- a line begins one of the other parts of a document, or ends it, or tells how many pages there are
abbrev pub is_structure : List ℕ → Bool
is_structure line =
    begins_with (codes "%%Pages:") line || begins_with (codes "%%EndComments") line || begins_with (codes "%%BeginDefaults") line
    || begins_with (codes "%%EndDefaults") line || begins_with (codes "%%BeginProlog") line || begins_with (codes "%%EndProlog") line
    || begins_with (codes "%%BeginSetup") line || begins_with (codes "%%EndSetup") line || begins_with (codes "%%BeginPageSetup") line

-- what a line is in the structure of a document, where nothing is open
unfoldable pub role_of : List ℕ → Role
role_of line =
    if begins_with (codes "%%Page:") line then Page
    else if begins_with (codes "%%Trailer") line || begins_with (codes "%%EOF") line then Trailer
    else if begins_with (codes "%%EndPageSetup") line then SetupEnd
    else if is_structure line then Structure
    else Text

-- no embedded document and no data is open
abbrev pub is_clear : Open → Bool
is_clear o = (o.documents == 0) && (o.raw == 0)

-- what a line is where this is open: text inside an embedded document and inside data
abbrev pub role_in : Open → List ℕ → Role
role_in o line = if is_clear o then role_of line else Text

-- one answer for each role
abbrev pub by_role : Bool → Bool → Bool → Bool → Bool → Role → Bool
by_role text page trailer setup_end structure Text = text
by_role text page trailer setup_end structure Page = page
by_role text page trailer setup_end structure Trailer = trailer
by_role text page trailer setup_end structure SetupEnd = setup_end
by_role text page trailer setup_end structure Structure = structure

-- the two roles are one
abbrev pub same_role : Role → Role → Bool
same_role Text role = by_role true false false false false role
same_role Page role = by_role false true false false false role
same_role Trailer role = by_role false false true false false role
same_role SetupEnd role = by_role false false false true false role
same_role Structure role = by_role false false false false true role

-- ---- the lines of a document

-- a line with its end, and what it is in the structure of its document
pub record Line : Type 0 where
  pub text : List ℕ
  pub role : Role

-- what is open behind a mark, or behind a line that is none
abbrev pub open_with : Open → Option Mark → Open
open_with o None = o
open_with o (Some mark) = open_behind o mark

-- what is open behind a line
abbrev pub open_past : Open → List ℕ → Open
open_past o line = open_with o (mark_of line)

-- lines where this is open, each with what it is
unfoldable pub lines_from : Open → List (List ℕ) → List Line
lines_from o [] = []
lines_from o (line ∷ lines) = record { text = line; role = role_in o line } ∷ lines_from (open_past o line) lines

-- what is open behind lines
unfoldable pub open_from : Open → List (List ℕ) → Open
open_from o [] = o
open_from o (line ∷ lines) = open_from (open_past o line) lines

-- the lines of a document
abbrev pub lines_in : List ℕ → List Line
lines_in text = lines_from none_open (lines_of text)

-- what a document leaves open
abbrev pub left_open : List ℕ → Open
left_open text = open_from none_open (lines_of text)
