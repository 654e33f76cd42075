-- What files join to: the fonts that they spell, normalized under a name, are rejoined.
use Rattle.std.specs.{Prelude.{◌≡◌, ℕ, ◌&&◌, nat_le, Bool, true, false, List, [], ◌∷◌, ◌++◌, codes, Option, Some, None, Result, Ok, Err, if◌then◌else◌}}
use Rattle.std.specs.{List.{list_all}, Option.{option_map, option_and_then, is_some, is_none}}
use Rattle.std.specs.Global.{Vec}
use Rattle.t1_bytes.specs.{Cipher.{private_cipher}, Texts.{hex_lines, zero_lines}}
use Rattle.t1_font.specs.{declared.fault.ReadFault.{ReadFault}, FontValue.{FontValue, weight, weight_limit}, Canon.{canon_clear, canon_private}, ReadFont.{read_font_widely}}
use Rattle.t1_font.specs.{UntestedFonts.{untested_font}, Normalizing.{filled_all}, FontNames.{normalized_named}}
use Rattle.t1_algebra.specs.{Profile.{profile}, States.{joined_font}, Conflicts.{Conflict, conflict}, Lacks.{first_lack}}
use Rattle.t1_subset.specs.{declared.conflict.Conflict.{Conflict as MergeConflict}, declared.conflict.Conflict.TheVariants.{Memory}, declared.fault.RejoinFault.{RejoinFault}}
use Rattle.t1_subset.specs.{declared.fault.RejoinFault.TheVariants.{Lacks, Merge}, Rejoins.{Rejoin, NotRejoined}}
use Rattle.t1_font.specs.declared.fault.ReadFault.TheVariants as fault
use Rattle.t1_classes.specs.{declared.refusals.Refusal.{Refusal}, declared.refusals.Refusal.TheVariants.{Unread, Unlike}, Partition.{File}}

-- ---- the fonts of files

-- a font that was read, without its test whether it was loaded before
abbrev pub without_test : Result FontValue ReadFault → Result FontValue ReadFault
without_test (Ok f) = Ok (untested_font f)
without_test (Err e) = Err e

-- one font more before fonts, or the fault that is met first
abbrev pub with_font : Result FontValue ReadFault → Result (List FontValue) ReadFault → Result (List FontValue) ReadFault
with_font (Ok f) (Ok fs) = Ok (f ∷ fs)
with_font (Ok f) (Err e) = Err e
with_font (Err e) more = Err e

-- the fonts that files spell widely, without their tests, or the fault of the first file that spells none
abbrev pub fonts_of_files : List File → Result (List FontValue) ReadFault
fonts_of_files [] = Ok []
fonts_of_files (f ∷ fs) = with_font (without_test (read_font_widely f)) (fonts_of_files fs)

-- ---- what fonts rejoin to

-- a joined font, where no conflict keeps two fonts apart
abbrev pub unless_apart : Option Conflict → FontValue → Option FontValue
unless_apart None j = Some j
unless_apart (Some c) j = None

-- a font and others, joined from left to right, if each joins
unfoldable pub joined_from : FontValue → List FontValue → Option FontValue
joined_from f [] = Some f
joined_from f (g ∷ gs) = option_and_then (λ j. joined_from j gs) (unless_apart (conflict profile f g) (joined_font profile f g))

-- fonts joined from left to right, if there are any and each joins
abbrev pub joined_fonts : List FontValue → Option FontValue
joined_fonts [] = None
joined_fonts (f ∷ fs) = joined_from f fs

-- each font is within the weight limit
abbrev pub are_light : List FontValue → Bool
are_light fs = list_all (λ f. nat_le (weight f) weight_limit) fs

-- the font that fonts rejoin to, if they do
unfoldable pub rejoined : List FontValue → Option FontValue
rejoined fs = if is_none (first_lack fs) && are_light (filled_all fs) then joined_fonts (filled_all fs) else None

-- the canonical font text of a font: its PFA without the line end behind `cleartomark`
abbrev pub font_text : FontValue → List ℕ
font_text f = canon_clear f ++ (hex_lines (private_cipher (canon_private f)) ++ (zero_lines 8 ++ codes "cleartomark"))

-- the text is that of a font that fonts rejoin to
abbrev pub RejoinToText : List FontValue → List ℕ → Type 0
RejoinToText fonts text = (j : FontValue) × Rejoin fonts j × (text ≡ font_text j)

-- ---- what files join to

-- the text of the font that fonts rejoin to under a name, if there are fonts that do
abbrev pub text_of_fonts : List ℕ → Result (List FontValue) ReadFault → Option (List ℕ)
text_of_fonts name (Ok fonts) = option_map font_text (rejoined (normalized_named name fonts))
text_of_fonts name (Err fault) = None

-- the text that files join to under a name, if they join
unfoldable pub joined_text : List ℕ → List File → Option (List ℕ)
joined_text name files = text_of_fonts name (fonts_of_files files)

-- files join under a name
unfoldable pub joins : List ℕ → List File → Bool
joins name files = is_some (joined_text name files)

-- ---- why they don't

-- a growth was refused
abbrev pub is_full : MergeConflict → Bool
is_full Memory = true
is_full e = false

abbrev pub wants_memory : RejoinFault → Bool
wants_memory (Lacks glyph index) = false
wants_memory (Merge conflict) = is_full conflict

abbrev pub is_memory : ReadFault → Bool
is_memory fault.Memory = true
is_memory fault = false

-- why fonts don't rejoin under a name: the fault of one that wasn't read, or that of their rejoin
abbrev pub FontsRefused : List ℕ → Result (List FontValue) ReadFault → Refusal → Type 0
FontsRefused name (Ok fonts) (Unread fault) = ⊥
FontsRefused name (Ok fonts) (Unlike fault) = NotRejoined (normalized_named name fonts) fault × (wants_memory fault ≡ false)
FontsRefused name (Err fault) why = why ≡ Unread fault

-- the text that fonts come to under a name, or why they come to none
abbrev pub AreJoined : List ℕ → Result (List FontValue) ReadFault → Result (Vec ℕ) Refusal → Type 0
AreJoined name fonts (Ok text) = text_of_fonts name fonts ≡ Some text.items
AreJoined name fonts (Err why) = (text_of_fonts name fonts ≡ None) × FontsRefused name fonts why

-- the text that files join to under a name, or why they don't join
abbrev pub IsJoined : List ℕ → List File → Result (Vec ℕ) Refusal → Type 0
IsJoined name files answer = AreJoined name (fonts_of_files files) answer
