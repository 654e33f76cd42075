-- The laws of reading, each the contract of a function in `laws`.
use Rattle.std.specs.Prelude.{◌≡◌, ◌↔◌, ℕ, List, Ok, Err}
use Rattle.t1_font.specs.{declared.fault.ReadFault.{ReadFault}, FontValue.{FontValue}, ReadFont.{read_font, read_font_widely}}
use Rattle.t1_font.specs.{Spelling.{Spells, SpellsWidely}, Reasons.{Reason, WideReason}}

-- what is read is what the file spells
abbrev pub ReadsSpelled : Type 0
ReadsSpelled = (file : List ℕ) (font : FontValue) → (read_font file ≡ Ok font) ↔ Spells file font

-- a file spells at most one font
abbrev pub SpellsOne : Type 0
SpellsOne = (file : List ℕ) (f g : FontValue) → Spells file f → Spells file g → f ≡ g

-- the fault is the reason
abbrev pub RefusesForReason : Type 0
RefusesForReason = (file : List ℕ) (e : ReadFault) → (read_font file ≡ Err e) ↔ Reason file e

-- the same of files that may be spelled widely; and a file that spells a font spells the same font widely
pub record ReadsWidely : Type 0 where
  pub spelled : (file : List ℕ) (font : FontValue) → (read_font_widely file ≡ Ok font) ↔ SpellsWidely file font
  pub one : (file : List ℕ) (f g : FontValue) → SpellsWidely file f → SpellsWidely file g → f ≡ g
  pub reason : (file : List ℕ) (e : ReadFault) → (read_font_widely file ≡ Err e) ↔ WideReason file e
  pub same : (file : List ℕ) (font : FontValue) → Spells file font → SpellsWidely file font
