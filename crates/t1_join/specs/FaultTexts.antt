-- The printed texts of the refusals.
use Rattle.std.specs.{Prelude.{ℕ, List, ◌++◌, codes}, Fmt.{decimal}}
use Rattle.t1_join.specs.{declared.listing.ListFault.{ListFault}, declared.listing.ListFault.TheVariants.{BadLine, Repeated, Memory as ListMemory}, declared.listing.JoinFault.{JoinFault}}
use Rattle.t1_join.specs.{declared.listing.JoinFault.TheVariants.{Subr, Glyph, Memory as JoinMemory}, Shown.{shown}}

-- what is printed of a text that is no listing
abbrev pub list_text : ListFault → List ℕ
list_text (BadLine line) = codes "bad line " ++ decimal line
list_text (Repeated line) = codes "repeated in line " ++ decimal line
list_text ListMemory = codes "out of memory"

-- what is printed of listings that don't join
abbrev pub join_text : JoinFault → List ℕ
join_text (Subr index) = codes "subr " ++ (decimal index ++ codes " differs")
join_text (Glyph name) = codes "glyph " ++ (shown name.items ++ codes " differs")
join_text JoinMemory = codes "out of memory"
