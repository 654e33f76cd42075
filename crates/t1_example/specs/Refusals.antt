-- Why a font is not cut.
use Rattle.std.specs.{Prelude.{◌≡◌, ℕ, List, Option, not}, List.{find}}
use Rattle.t1_font.specs.FontValue.{FontValue}
use Rattle.t1_algebra.specs.Keep.{has}
use Rattle.t1_subset.specs.Refusals.{Absent}
use Rattle.t1_example.specs.{declared.refusal.Refusal.{Refusal}, declared.refusal.Refusal.TheVariants.{Read, Subset, Merge, Memory}}
use Rattle.t1_font.specs.declared.fault.ReadFault.TheVariants as reading
use Rattle.t1_subset.specs.declared.fault.SubsetFault.TheVariants as subsetting
use Rattle.t1_subset.specs.declared.conflict.Conflict.TheVariants as merging

-- a growth was refused
abbrev pub IsMemory : Refusal → Type 0
IsMemory (Read fault) = fault ≡ reading.Memory
IsMemory (Subset fault) = fault ≡ subsetting.Memory
IsMemory (Merge conflict) = conflict ≡ merging.Memory
IsMemory Memory = Unit {0}

-- the first of these names that the font lacks
abbrev pub first_lacking : FontValue → List (List ℕ) → Option (List ℕ)
first_lacking f = find (λ n. not (has f n))

-- the refusal of a cut names the first name that the font lacks
abbrev pub LacksFirst : Option (List ℕ) → Refusal → Type 0
LacksFirst first (Subset fault) = Absent fault first
LacksFirst first e = ⊥
