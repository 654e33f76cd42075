-- The printed texts of the refusals.
use Rattle.std.specs.{Prelude.{ℕ, List, ◌++◌, codes}, Fmt.{decimal}}
use Rattle.t1_font.specs.declared.fault.ReadFault.{ReadFault}
use Rattle.t1_font.specs.declared.fault.ReadFault.TheVariants.{TooLong, BadSegment, NoEexec, ShortCipher, NoEncoding, BadEncoding, NoCharStrings, BadLenIV, BadSubrs, BadGlyphs, Hybrid, NoClosefile}
use Rattle.t1_font.specs.{declared.fault.ReadFault.TheVariants.{NoNotdef, Limit, Memory}, declared.parts.PartsFault.{PartsFault}}
use Rattle.t1_font.specs.declared.parts.PartsFault.TheVariants as parts

-- what is printed of a fault
abbrev pub fault_text : ReadFault → List ℕ
fault_text TooLong = codes "file too long"
fault_text (BadSegment at) = codes "bad segment at " ++ decimal at
fault_text NoEexec = codes "no eexec"
fault_text ShortCipher = codes "cipher too short"
fault_text NoEncoding = codes "no Encoding"
fault_text (BadEncoding at) = codes "bad Encoding at " ++ decimal at
fault_text NoCharStrings = codes "no CharStrings"
fault_text BadLenIV = codes "bad lenIV"
fault_text (BadSubrs at) = codes "bad Subrs at " ++ decimal at
fault_text (BadGlyphs at) = codes "bad CharStrings at " ++ decimal at
fault_text Hybrid = codes "hybrid font"
fault_text NoClosefile = codes "no closefile"
fault_text NoNotdef = codes "no .notdef"
fault_text Limit = codes "over a limit"
fault_text Memory = codes "out of memory"

-- what is printed of entries that are not one font
abbrev pub parts_text : PartsFault → List ℕ
parts_text parts.Limit = codes "over a limit"
parts_text parts.Memory = codes "out of memory"
