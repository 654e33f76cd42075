-- What reading a table returned, against what reading gives.
use Rattle.std.specs.Prelude.{◌≡◌, ℕ, ◌-◌, List, length, Option, Some, None, Err}
use Rattle.t1_bytes.specs.declared.fault.BytesFault.{BytesFault}
use Rattle.t1_grammar.specs.Tables.{Table}
use Rattle.t1_font.specs.{declared.fault.ReadFault.{ReadFault}, declared.fault.TableError.{TableError}}
use Rattle.t1_text.specs.{declared.dialect.Spacing.{Spacing}, Dialect.{white_in}}
use Rattle.t1_font.specs.declared.fault.TableError.TheVariants.{Memory, Left}
use Rattle.t1_bytes.specs.declared.fault.BytesFault.TheVariants as bytes
use Rattle.t1_font.specs.declared.fault.ReadFault.TheVariants as faults

-- how many bytes stand behind what is read
abbrev pub behind : {A : Type 0} → Option (A × List ℕ) → ℕ
behind None = 0
behind (Some x) = length x.1

-- how many bytes are left after white space
abbrev pub left_after_white : Spacing → List ℕ → ℕ
left_after_white d bytes = behind ((white_in d).read bytes)

-- the table breaks off there
abbrev pub TableFails : {A B : Type 0} → Spacing → TableError → Table A B → Type 0
TableFails d Memory read = Unit {0}
TableFails d (Left n) read = (left : List ℕ) × (read ≡ Err left) × (n ≡ left_after_white d left)

-- the fault of a table in the last part of a text of len bytes
abbrev pub table_fault : (ℕ → ReadFault) → ℕ → TableError → ReadFault
table_fault bad len Memory = faults.Memory
table_fault bad len (Left n) = bad (len - n)

-- a fault of the containers, as one of the file
abbrev pub read_fault : BytesFault → ReadFault
read_fault (bytes.BadSegment at) = faults.BadSegment at
read_fault bytes.NoEexec = faults.NoEexec
read_fault bytes.ShortCipher = faults.ShortCipher
read_fault bytes.Memory = faults.Memory
