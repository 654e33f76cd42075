-- What the engine that subsets a font writes.
use Rattle.std.specs.{Prelude.{◌≡◌, ℕ, List, [], ◌∷◌, ◌++◌, codes, not, if◌then◌else◌, Option, Some, None, Result, Ok, Err}, FinMap.{get}, Str.{bytes_eq}, List.{find}}
use Rattle.t1_bytes.specs.declared.form.Form.{Form}
use Rattle.t1_run.specs.Standard.{standard_name}
use Rattle.t1_font.specs.{FontValue.{FontValue, Encoding, Word, Codes}, Canon.{canon}}
use Rattle.t1_algebra.specs.{Profile.{profile}, Keep.{has, subset}}
use Rattle.t1_cmd.specs.{declared.faults.Reason.{Reason}, declared.faults.Reason.TheVariants.{NoGlyph, NoCode}, Answers.{if_there}}
use Rattle.std.specs.FinSet as sets

-- the first of these names that the font lacks
abbrev pub first_absent : FontValue → List (List ℕ) → Option (List ℕ)
first_absent f names = find (λ n. not (has f n)) names

-- a text, unless a name is absent
abbrev pub unless_absent : Option (List ℕ) → List ℕ → Result (List ℕ) Reason
unless_absent None text = Ok text
unless_absent (Some name) text = Err (NoGlyph name)

-- the canonical file of the subset of these names
abbrev pub subset_answer : Form → List (List ℕ) → FontValue → Result (List ℕ) Reason
subset_answer form names f = unless_absent (first_absent f names) (canon (subset profile f (sets.from_list names)) form)

-- ---- codes

-- the word of a font whose Encoding is StandardEncoding
abbrev pub standard_word : List ℕ
standard_word = codes "StandardEncoding"

-- the name of a code: by the table, or in StandardEncoding if that is the word; by another word no code has a name
abbrev pub code_name : Encoding → ℕ → Option (List ℕ)
code_name (Word word) code = if bytes_eq word standard_word then standard_name code else None
code_name (Codes names) code = get names code

-- the name of a code before those of others, or the first code without a name
abbrev pub name_before : ℕ → Option (List ℕ) → Result (List (List ℕ)) Reason → Result (List (List ℕ)) Reason
name_before code None rest = Err (NoCode code)
name_before code (Some name) (Ok names) = Ok (name ∷ names)
name_before code (Some name) (Err e) = Err e

-- the names of codes in an Encoding, or the first code that has none
abbrev pub code_names : Encoding → List ℕ → Result (List (List ℕ)) Reason
code_names encoding [] = Ok []
code_names encoding (code ∷ more) = name_before code (code_name encoding code) (code_names encoding more)

-- names, and behind them the names of codes, if each has one
abbrev pub names_with : Encoding → List (List ℕ) → List ℕ → Result (List (List ℕ)) Reason
names_with encoding names numbers = if_there (λ more. Ok (names ++ more)) (code_names encoding numbers)

-- the canonical file of the subset of these names and of the names of these codes
abbrev pub subset_with_codes : Form → List (List ℕ) → List ℕ → FontValue → Result (List ℕ) Reason
subset_with_codes form names numbers f = if_there (λ all. subset_answer form all f) (names_with f.encoding names numbers)

-- without codes it is that of the names
abbrev pub SubsetWithoutCodes : Type 0
SubsetWithoutCodes = (form : Form) (names : List (List ℕ)) (f : FontValue) → subset_with_codes form names [] f ≡ subset_answer form names f
