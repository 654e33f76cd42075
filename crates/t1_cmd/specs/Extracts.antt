-- The font of a name, taken out of documents.
use Rattle.std.specs.{Prelude.{◌≡◌, ℕ, ◌≤◌, List, length, Option, Some, None, Result, Ok, Err}, List.{find}, Str.{bytes_eq}}
use Rattle.t1_bytes.specs.{declared.form.Form.TheVariants.{Pfa}, Limits.{file_limit}}
use Rattle.t1_font.specs.{FontValue.{FontValue}, ReadFont.{read_font_widely}, Canon.{canon}}
use Rattle.t1_font.specs.UntestedFonts.{untested_font}
use Rattle.t1_document.specs.{Documents.{Place}, Joins.{places_of_all}}
use Rattle.t1_cmd.specs.{declared.faults.Reason.{Reason}, declared.faults.Reason.TheVariants.{NoFont}, Fonts.{of_mended, file_answer}}

-- the first place of a name
abbrev pub first_named : List ℕ → List Place → Option Place
first_named name ps = find (λ p. bytes_eq p.name name) ps

-- the text is the canonical PFA of the font that a place spells widely, without the test whether it was loaded before
abbrev pub IsTakenOut : Place → List ℕ → Type 0
IsTakenOut p text = (f : FontValue) × (read_font_widely p.text ≡ Ok f) × (text ≡ canon (untested_font f) Pfa)

-- the font of the first place of a name in documents is taken out; or no place has the name, and that is told
abbrev pub ExtractsTo : List ℕ → List (List ℕ) → Result (List ℕ) Reason → Type 0
ExtractsTo name documents (Ok text) = (p : Place) × (first_named name (places_of_all documents) ≡ Some p) × IsTakenOut p text
ExtractsTo name documents (Err (NoFont other)) = (other ≡ name) × (first_named name (places_of_all documents) ≡ None)
ExtractsTo name documents (Err r) = ⊥

-- ---- a law, the contract of a function in `laws`

-- what is taken out of a place is what its font text is mended to
abbrev pub TakesOutMended : Type 0
TakesOutMended = (p : Place) (text : List ℕ) → length p.text ≤ file_limit → IsTakenOut p text → of_mended (file_answer Pfa) p.text ≡ Ok text
