-- Marks: the lines by which a document says where its parts begin and end (Adobe's Document Structuring Conventions).
use Rattle.std.specs.{Prelude.{ℕ, ◌+◌, ◌-◌, Bool, true, false, List, codes, Option, Some, None, is_some, if◌then◌else◌}, Option.{option_map}, List.{list_any}}
use Rattle.t1_grammar.specs.Grammar.{fixed, choice}
use Rattle.t1_document.specs.{declared.marks.Side.{Side}, declared.marks.Side.TheVariants.{Begin, End}, declared.marks.Kind.{Kind}}
use Rattle.t1_document.specs.{declared.marks.Kind.TheVariants.{Font, ProcSet, Resource, Document, Data, Binary}, declared.marks.Mark.{Mark}, Lines.{lines_of}}

-- a text begins with this word
abbrev pub begins_with : List ℕ → List ℕ → Bool
begins_with word text = is_some ((fixed word).read text)

-- the kind whose word a text begins with
unfoldable pub kind_of : List ℕ → Option Kind
kind_of text =
    if begins_with (codes "Font") text then Some Font
    else if begins_with (codes "ProcSet") text then Some ProcSet
    else if begins_with (codes "Resource") text then Some Resource
    else if begins_with (codes "Document") text then Some Document
    else if begins_with (codes "Data") text then Some Data
    else if begins_with (codes "Binary") text then Some Binary
    else None

-- a mark of this side, and of the kind whose word comes behind what was read
abbrev pub mark_behind : Side → Option (List ℕ × List ℕ) → Option Mark
mark_behind side None = None
mark_behind side (Some x) = option_map (λ kind. record { side = side; kind = kind }) (kind_of x.1)

-- the mark that a line is: it begins with `%%Begin` or `%%End` and the word of a kind
unfoldable pub mark_of : List ℕ → Option Mark
mark_of line = choice (mark_behind Begin ((fixed (codes "%%Begin")).read line)) (mark_behind End ((fixed (codes "%%End")).read line))

-- some line of a text is a mark
abbrev pub has_mark : List ℕ → Bool
has_mark text = list_any (λ line. is_some (mark_of line)) (lines_of text)

-- ---- the kinds

-- one answer for each kind
abbrev pub by_kind : Bool → Bool → Bool → Bool → Bool → Bool → Kind → Bool
by_kind font proc_set resource document open_count bytes Font = font
by_kind font proc_set resource document open_count bytes ProcSet = proc_set
by_kind font proc_set resource document open_count bytes Resource = resource
by_kind font proc_set resource document open_count bytes Document = document
by_kind font proc_set resource document open_count bytes Data = open_count
by_kind font proc_set resource document open_count bytes Binary = bytes

-- what stands between marks of this kind may be a font
abbrev pub holds_fonts : Kind → Bool
holds_fonts kind = by_kind true true true false false false kind

-- what stands between marks of this kind is a number of lines or bytes, in which nothing is sought
abbrev pub holds_data : Kind → Bool
holds_data kind = by_kind false false false false true true kind

-- what stands between marks of this kind is another document
abbrev pub is_document : Kind → Bool
is_document kind = by_kind false false false true false false kind

-- the two kinds are one
abbrev pub same_kind : Kind → Kind → Bool
same_kind Font other = by_kind true false false false false false other
same_kind ProcSet other = by_kind false true false false false false other
same_kind Resource other = by_kind false false true false false false other
same_kind Document other = by_kind false false false true false false other
same_kind Data other = by_kind false false false false true false other
same_kind Binary other = by_kind false false false false false true other

-- ---- what is open

-- one more that is open behind a Begin, one fewer behind an End, and never fewer than none
abbrev pub open_count : Side → ℕ → ℕ
open_count Begin n = n + 1
open_count End n = n - 1
