-- What the engines over one font read and write.
use Rattle.std.specs.Prelude.{ℕ, List, Result, Ok}
use Rattle.t1_bytes.specs.declared.form.Form.{Form}
use Rattle.t1_font.specs.{declared.fault.ReadFault.{ReadFault}, FontValue.{FontValue}, ReadFont.{read_font, read_font_widely}, Canon.{canon}}
use Rattle.t1_font.specs.UntestedFonts.{untested_font}
use Rattle.t1_cmd.specs.{declared.font_commands.Taking.{Taking}, declared.font_commands.Taking.TheVariants.{Spelled, Mended}, declared.faults.Reason.{Reason}}
use Rattle.t1_cmd.specs.{declared.faults.Reason.TheVariants.{TooLong, Memory, Font}, Answers.{with_reason, within_limit, if_there}}
use Rattle.t1_font.specs.declared.fault.ReadFault.TheVariants as faults

-- a fault of reading as a reason
abbrev pub font_reason : ReadFault → Reason
font_reason faults.TooLong = TooLong
font_reason faults.Memory = Memory
font_reason fault = Font fault

-- the font that an input spells
abbrev pub font_input : List ℕ → Result FontValue Reason
font_input = within_limit (λ bytes. with_reason font_reason (read_font bytes))

-- the font that an input spells widely, without the test whether it was loaded before
abbrev pub mended_input : List ℕ → Result FontValue Reason
mended_input = within_limit (λ bytes. if_there (λ f. Ok (untested_font f)) (with_reason font_reason (read_font_widely bytes)))

-- the font of an input, by how it is taken
abbrev pub input_by : Taking → List ℕ → Result FontValue Reason
input_by Spelled = font_input
input_by Mended = mended_input

-- a file is answered with what its font is answered with, or with why it has none
abbrev pub of_input : (List ℕ → Result FontValue Reason) → (FontValue → Result (List ℕ) Reason) → List ℕ → Result (List ℕ) Reason
of_input input answer file = if_there answer (input file)

-- a file is answered with what its font is answered with, or with why it spells no font
abbrev pub of_file : (FontValue → Result (List ℕ) Reason) → List ℕ → Result (List ℕ) Reason
of_file = of_input font_input

-- the same of the font that it spells widely, without the test whether it was loaded before
abbrev pub of_mended : (FontValue → Result (List ℕ) Reason) → List ℕ → Result (List ℕ) Reason
of_mended = of_input mended_input

-- the canonical file of a font
abbrev pub file_answer : Form → FontValue → Result (List ℕ) Reason
file_answer form f = Ok (canon f form)
