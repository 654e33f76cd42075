-- The printed texts of the refusals.
use Rattle.std.specs.{Prelude.{ℕ, List, ◌++◌, codes}, Fmt.{decimal}}
use Rattle.t1_bytes.specs.{declared.fault.BytesFault.{BytesFault}, declared.fault.BytesFault.TheVariants.{BadSegment, Memory, NoEexec, ShortCipher}}

-- what is printed of a fault
abbrev pub fault_text : BytesFault → List ℕ
fault_text (BadSegment at) = codes "bad segment at " ++ decimal at
fault_text NoEexec = codes "no eexec"
fault_text ShortCipher = codes "cipher too short"
fault_text Memory = codes "out of memory"
