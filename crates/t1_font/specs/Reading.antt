-- What a font's texts spell, and the first fault of a text that spells nothing. The order of the lines of a reading is the order of
-- the faults.
use Rattle.std.specs.Prelude.{ℕ, ◌-◌, List}
use Rattle.t1_grammar.specs.{Grammar.{Grammar}, TableLaws.{Eats, Apart}}
use Rattle.t1_font.specs.{declared.fault.ReadFault.{ReadFault}, Faults.{left_after_white}}
use Rattle.t1_text.specs.declared.dialect.Spacing.{Spacing}
use Rattle.t1_grammar.specs.Formats as formats
pub use Rattle.t1_grammar.specs.Formats.{Format, give, ◌>>=◌, ◌>>◌, faulted, must, wanted, sought, if_sought, lacking}

-- a value, or the first fault
abbrev pub Reading : Type 0 → Type 1
Reading A = Format ReadFault A

-- the fault at the place of the first entry that doesn't read, in a text of len bytes
abbrev pub bad_at : Spacing → (ℕ → ReadFault) → ℕ → List ℕ → ReadFault
bad_at d bad len left = bad (len - left_after_white d left)

-- entries up to what closes them, in the last part of a text of len bytes
abbrev pub table : {A B : Type 0} → Spacing → (ℕ → ReadFault) → ℕ → (entry : Grammar A) (close : Grammar B) → Eats entry → Apart entry close → List ℕ →
    Reading (List A × B × List ℕ)
table d bad len entry close eats apart bytes = formats.table (bad_at d bad len) entry close eats apart bytes

-- so many entries and what closes them, in the last part of a text of len bytes
abbrev pub counted : {A B : Type 0} → Spacing → (ℕ → ReadFault) → ℕ → Grammar A → Grammar B → ℕ → List ℕ → Reading (List A × B × List ℕ)
counted d bad len entry close n bytes = formats.counted (bad_at d bad len) entry close n bytes
