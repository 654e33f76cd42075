-- The numbers by which C knows forms, ways of pooling, refusals, and the parts of a font. `include/t1subset.h` has the same names and
-- numbers. A number that was released never changes.
use Rattle.std.specs.Prelude.{ℕ, ◌+◌, true, false, Option, Some, None, if◌then◌else◌, ◌==◌}
use Rattle.t1_bytes.specs.{declared.form.Form.{Form}, declared.form.Form.TheVariants.{Pfa, Pfb}}
use Rattle.t1_font.specs.declared.fault.ReadFault.{ReadFault}
use Rattle.t1_subset.specs.{declared.conflict.ShellPart.{ShellPart}, declared.conflict.Conflict.{Conflict}}
use Rattle.t1_join.specs.{declared.listing.ListFault.{ListFault}, declared.listing.JoinFault.{JoinFault}}
use Rattle.t1_cmd.specs.declared.pools.Pooling.{Pooling}
use Rattle.t1_cmd.specs.{declared.faults.Reason.{Reason}, declared.faults.Reason.TheVariants.{TooLong, Memory, List, Join, Font, NoGlyph, NoCode, NoFont, Document, TooManyTokens, Lacks, Merge}}
use Rattle.t1_font.specs.declared.fault.ReadFault.TheVariants as fault
use Rattle.t1_subset.specs.declared.conflict.ShellPart.TheVariants as part
use Rattle.t1_subset.specs.declared.conflict.Conflict.TheVariants as conflict
use Rattle.t1_join.specs.declared.listing.ListFault.TheVariants as list
use Rattle.t1_join.specs.declared.listing.JoinFault.TheVariants as join

-- ---- forms

abbrev pub pfa : ℕ
pfa = 0

abbrev pub pfb : ℕ
pfb = 1

-- the form of a number
abbrev pub form_at : ℕ → Option Form
form_at n = if n == pfa then Some Pfa else if n == pfb then Some Pfb else None

-- ---- how documents are pooled

abbrev pub tags : ℕ
tags = 1

abbrev pub dsc : ℕ
dsc = 2

-- what a number says of how documents are pooled: the sum of these that hold
abbrev pub pooling_at : ℕ → Option Pooling
pooling_at n =
    if n == 0 then Some (record { tags = false; dsc = false }) else if n == tags then Some (record { tags = true; dsc = false })
    else if n == dsc then Some (record { tags = false; dsc = true }) else if n == tags + dsc then Some (record { tags = true; dsc = true }) else None

-- ---- refusals

-- the call was answered
abbrev pub ok : ℕ
ok = 0

-- a growth was refused
abbrev pub memory : ℕ
memory = 1

-- an argument has no meaning
abbrev pub bad_call : ℕ
bad_call = 2

abbrev pub file_too_long : ℕ
file_too_long = 3

abbrev pub no_glyph : ℕ
no_glyph = 4

abbrev pub no_code : ℕ
no_code = 5

abbrev pub no_font : ℕ
no_font = 6

abbrev pub too_many_tokens : ℕ
too_many_tokens = 7

abbrev pub no_document : ℕ
no_document = 8

abbrev pub bad_segment : ℕ
bad_segment = 10

abbrev pub no_eexec : ℕ
no_eexec = 11

abbrev pub short_cipher : ℕ
short_cipher = 12

abbrev pub no_encoding : ℕ
no_encoding = 13

abbrev pub bad_encoding : ℕ
bad_encoding = 14

abbrev pub no_charstrings : ℕ
no_charstrings = 15

abbrev pub bad_leniv : ℕ
bad_leniv = 16

abbrev pub bad_subrs : ℕ
bad_subrs = 17

abbrev pub bad_charstrings : ℕ
bad_charstrings = 18

abbrev pub hybrid : ℕ
hybrid = 19

abbrev pub no_closefile : ℕ
no_closefile = 20

abbrev pub no_notdef : ℕ
no_notdef = 21

abbrev pub font_limit : ℕ
font_limit = 22

abbrev pub shells_differ : ℕ
shells_differ = 30

abbrev pub code_differs : ℕ
code_differs = 31

abbrev pub glyph_differs : ℕ
glyph_differs = 32

abbrev pub glyph_lacks_part : ℕ
glyph_lacks_part = 33

abbrev pub subr_differs : ℕ
subr_differs = 34

abbrev pub merge_limit : ℕ
merge_limit = 35

abbrev pub nothing_to_merge : ℕ
nothing_to_merge = 36

abbrev pub glyph_lacks_subr : ℕ
glyph_lacks_subr = 37

abbrev pub bad_line : ℕ
bad_line = 40

abbrev pub repeated_line : ℕ
repeated_line = 41

abbrev pub listed_subr_differs : ℕ
listed_subr_differs = 42

abbrev pub listed_glyph_differs : ℕ
listed_glyph_differs = 43

-- the number of a fault of reading a font
abbrev pub font_number : ReadFault → ℕ
font_number fault.TooLong = file_too_long
font_number (fault.BadSegment at) = bad_segment
font_number fault.NoEexec = no_eexec
font_number fault.ShortCipher = short_cipher
font_number fault.NoEncoding = no_encoding
font_number (fault.BadEncoding at) = bad_encoding
font_number fault.NoCharStrings = no_charstrings
font_number fault.BadLenIV = bad_leniv
font_number (fault.BadSubrs at) = bad_subrs
font_number (fault.BadGlyphs at) = bad_charstrings
font_number fault.Hybrid = hybrid
font_number fault.NoClosefile = no_closefile
font_number fault.NoNotdef = no_notdef
font_number fault.Limit = font_limit
font_number fault.Memory = memory

-- the number of a conflict of fonts
abbrev pub merge_number : Conflict → ℕ
merge_number (conflict.Shell part) = shells_differ
merge_number (conflict.Code code) = code_differs
merge_number (conflict.Glyph name) = glyph_differs
merge_number (conflict.Part glyph part) = glyph_lacks_part
merge_number (conflict.Subr index user) = subr_differs
merge_number conflict.Limit = merge_limit
merge_number conflict.Memory = memory
merge_number conflict.Empty = nothing_to_merge

-- the number of a fault of reading a listing
abbrev pub list_number : ListFault → ℕ
list_number (list.BadLine line) = bad_line
list_number (list.Repeated line) = repeated_line
list_number list.Memory = memory

-- the number of a conflict of listings
abbrev pub join_number : JoinFault → ℕ
join_number (join.Subr index) = listed_subr_differs
join_number (join.Glyph name) = listed_glyph_differs
join_number join.Memory = memory

-- the number of a reason
abbrev pub number_of : Reason → ℕ
number_of TooLong = file_too_long
number_of Memory = memory
number_of (List f) = list_number f
number_of (Join f) = join_number f
number_of (Font f) = font_number f
number_of (NoGlyph name) = no_glyph
number_of (NoCode code) = no_code
number_of (NoFont name) = no_font
number_of (Document why) = no_document
number_of TooManyTokens = too_many_tokens
number_of (Lacks glyph index) = glyph_lacks_subr
number_of (Merge c) = merge_number c

-- ---- parts

abbrev pub part_head : ℕ
part_head = 0

abbrev pub part_encoding : ℕ
part_encoding = 1

abbrev pub part_clear_tail : ℕ
part_clear_tail = 2

abbrev pub part_private : ℕ
part_private = 3

abbrev pub part_subrs_table : ℕ
part_subrs_table = 4

abbrev pub part_subrs_words : ℕ
part_subrs_words = 5

abbrev pub part_middle : ℕ
part_middle = 6

abbrev pub part_glyphs_words : ℕ
part_glyphs_words = 7

abbrev pub part_tail : ℕ
part_tail = 8

-- the number of a part
abbrev pub part_number : ShellPart → ℕ
part_number part.Head = part_head
part_number part.Encoding = part_encoding
part_number part.ClearTail = part_clear_tail
part_number part.Private = part_private
part_number part.SubrsTable = part_subrs_table
part_number part.SubrsWords = part_subrs_words
part_number part.Middle = part_middle
part_number part.GlyphsWords = part_glyphs_words
part_number part.Tail = part_tail

-- ---- what a refusal names

-- the offset, code, index, line or part that a reason names
abbrev pub detail_of : Reason → ℕ
detail_of (Font (fault.BadSegment at)) = at
detail_of (Font (fault.BadEncoding at)) = at
detail_of (Font (fault.BadSubrs at)) = at
detail_of (Font (fault.BadGlyphs at)) = at
detail_of (NoCode code) = code
detail_of (Lacks glyph index) = index
detail_of (Merge (conflict.Shell p)) = part_number p
detail_of (Merge (conflict.Code code)) = code
detail_of (Merge (conflict.Subr index user)) = index
detail_of (List (list.BadLine line)) = line
detail_of (List (list.Repeated line)) = line
detail_of (Join (join.Subr index)) = index
detail_of other = 0
