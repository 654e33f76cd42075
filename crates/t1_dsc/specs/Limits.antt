-- Joined documents that are longer than they may be.
use Rattle.std.specs.Prelude.{ℕ, ◌<◌, List, length, codes}
use Rattle.t1_dsc.specs.{declared.fault.PagesFault.{PagesFault}, declared.fault.PagesFault.TheVariants.{TooLong, Memory}}

-- a refusal to write these bytes is true: they are longer than the limit, or a growth was refused
abbrev pub IsOver : ℕ → List ℕ → PagesFault → Type 0
IsOver limit bytes TooLong = limit < length bytes
IsOver limit bytes Memory = Unit {0}

-- what is printed of it
abbrev pub fault_text : PagesFault → List ℕ
fault_text TooLong = codes "document too long"
fault_text Memory = codes "out of memory"
