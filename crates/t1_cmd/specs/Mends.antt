-- What mended files are mended to, and rejoin to, and what is told of mending.
use Rattle.std.specs.{Prelude.{◌≡◌, ℕ, List, [], ◌∷◌, ◌++◌, Result, Ok, IfOk}, List.{flat_map}}
use Rattle.t1_bytes.specs.{declared.form.Form.{Form}, Laws.{AreBytes}}
use Rattle.t1_font.specs.{FontValue.{FontValue}, declared.mend.Mend.{Mend}, Mends.{mends_of, mend_text}, IsFont.{IsFont}, Canon.{canon, Fits}}
use Rattle.t1_font.specs.UntestedFonts.{untested_font}
use Rattle.t1_cmd.specs.{declared.faults.Reason.{Reason}, Answers.{with_reason, within_limit, if_there}, Fonts.{font_reason, font_input, mended_input, of_mended, file_answer}, Files.{values_from}}

-- ---- what is told

-- the line of a mend
abbrev pub mend_line : Mend → List ℕ
mend_line mend = mend_text mend ++ 10 ∷ []

-- the lines of the mends of a file, or why it spells no font widely
abbrev pub mends_answer : List ℕ → Result (List ℕ) Reason
mends_answer = within_limit (λ file. if_there (λ mends. Ok (flat_map mend_line mends)) (with_reason font_reason (mends_of file)))

-- ---- mended files

-- the text is the mended file of a file of bytes, written in a form in which it can be read
abbrev pub IsMendedFile : Form → List ℕ → List ℕ → Type 0
IsMendedFile form file text = AreBytes file × (of_mended (file_answer form) file ≡ Ok text) × IfOk (mended_input file) (Fits form)

-- the texts are the mended files of files, one for one, each in some form
abbrev pub AreMendedFiles : List (List ℕ) → List (List ℕ) → Type 0
AreMendedFiles [] [] = Unit {0}
AreMendedFiles [] (text ∷ texts) = ⊥
AreMendedFiles (file ∷ files) [] = ⊥
AreMendedFiles (file ∷ files) (text ∷ texts) = ((form : Form) × IsMendedFile form file text) × AreMendedFiles files texts

-- ---- laws, each the contract of a function in `laws`

-- a mended file is mended, in each form, to what the file is mended to
abbrev pub MendsAgain : Type 0
MendsAgain = (written form : Form) (file text : List ℕ) → IsMendedFile written file text
    → of_mended (file_answer form) text ≡ of_mended (file_answer form) file

-- the canonical file of a font whose head has no test to lose is mended to itself
abbrev pub MendsNothing : Type 0
MendsNothing = (f : FontValue) (form : Form) → IsFont f → Fits form f → untested_font f ≡ f → of_mended (file_answer form) (canon f form) ≡ Ok (canon f form)

-- a mended file spells the font that the file was mended to, so each other command takes it
abbrev pub MendedIsSpelled : Type 0
MendedIsSpelled = (form : Form) (file text : List ℕ) → IsMendedFile form file text → font_input text ≡ mended_input file

-- of a mended file nothing is told
abbrev pub TellsNothing : Type 0
TellsNothing = (form : Form) (file text : List ℕ) → IsMendedFile form file text → mends_answer text ≡ Ok []

-- mended files are rejoined as the same fonts as the files
abbrev pub RejoinsMended : Type 0
RejoinsMended = (files texts : List (List ℕ)) → AreMendedFiles files texts → values_from mended_input 0 texts ≡ values_from mended_input 0 files
