-- What a call gives to C.
use Rattle.std.specs.{Prelude.{◌≡◌, ◌⊎◌, ℕ, ◌-◌, ◌^◌, min, ℤ, pos, negsuc, List, [], ◌∷◌, map, All, Option, None, Some, Result, Ok, Err}, List.{range_with_len}, Fmt.{decimal}}
use Rattle.t1_bytes.specs.declared.form.Form.{Form}
use Rattle.t1_font.specs.FontValue.{FontValue}
use Rattle.t1_cmd.specs.{declared.faults.Reason.{Reason}, declared.faults.Reason.TheVariants.{TooLong, Memory, Font}, Texts.{reason_text}, Answers.{OfThere}, Fonts.{font_input, of_file, of_mended}}
use Rattle.t1_cmd.specs.{Files.{OfFiles, SaidBy, RefusedAt, IsUnread}, Documents.{file_input}, Levels.{LevelsFiles}}
use Rattle.t1_c.specs.{declared.answers.Answer.{Answer}, Numbers.{ok, memory, bad_call, number_of, detail_of}}

-- ---- what is given

-- the last place that the field `input` can say
abbrev pub last_place : ℕ
last_place = 2 ^ 63 - 1

-- the place of an input, or -1 if there is none
abbrev pub input_at : Option ℕ → ℤ
input_at None = negsuc 0
input_at (Some place) = pos (min place last_place)

-- an answer names nothing
abbrev pub NamesNothing : Answer → Type 0
NamesNothing a = (a.detail ≡ 0) × (a.input ≡ input_at None)

-- an answer holds nothing
abbrev pub HoldsNothing : Answer → Type 0
HoldsNothing a = (a.detail ≡ 0) × (a.input ≡ input_at None) × (a.bytes.now ≡ [])

-- the call returns this number, and gives nothing
abbrev pub HasNothing : ℕ → ℕ → Answer → Type 0
HasNothing number code a = (code ≡ number) × HoldsNothing a

-- the call returns 0, and gives this text
abbrev pub HasWhole : List ℕ → ℕ → Answer → Type 0
HasWhole text code a = (code ≡ ok) × (a.detail ≡ 0) × (a.input ≡ input_at None) × (a.bytes.now ≡ text)

-- The call returns the number of a reason, and gives what it names, the place of the input that is refused, and its text.
-- Want of memory is not told like this.
abbrev pub IsSaid : Option ℕ → Reason → ℕ → Answer → Type 0
IsSaid place Memory code a = ⊥
IsSaid place r code a = (code ≡ number_of r) × (a.detail ≡ detail_of r) × (a.input ≡ input_at place) × (a.bytes.now ≡ reason_text r)

-- a reason is told, unless a growth was refused
abbrev pub GivesReason : Option ℕ → Reason → ℕ → Answer → Type 0
GivesReason place r code a = HasNothing memory code a ⊎ IsSaid place r code a

-- ---- what is given in several answers

-- the call returns this number, and no answer holds anything
abbrev pub HaveNothing : ℕ → ℕ → List Answer → Type 0
HaveNothing number code answers = (code ≡ number) × All HoldsNothing answers

-- the call returns 0, and the answers give these texts, one each, in their order
abbrev pub HaveTexts : List (List ℕ) → ℕ → List Answer → Type 0
HaveTexts texts code answers = (code ≡ ok) × (map (λ a. a.bytes.now) answers ≡ texts) × All NamesNothing answers

-- a reason is told in the first answer, and the others hold nothing
abbrev pub FirstSays : Option ℕ → Reason → ℕ → List Answer → Type 0
FirstSays place r code [] = ⊥
FirstSays place r code (a ∷ others) = IsSaid place r code a × All HoldsNothing others

-- a reason is told in the first answer, unless a growth was refused
abbrev pub FirstGives : Option ℕ → Reason → ℕ → List Answer → Type 0
FirstGives place r code answers = HaveNothing memory code answers ⊎ FirstSays place r code answers

-- ---- what a call does

-- A call gives a text that is right, or tells a reason that is right at its place; or a growth was refused, and it gives nothing.
abbrev pub CallGives : (List ℕ → Type 0) → (Option ℕ → Reason → Type 0) → ℕ → Answer → Type 0
CallGives IsText IsReason code a =
    HasNothing memory code a
    ⊎ (((text : List ℕ) × IsText text × HasWhole text code a)
    ⊎ ((place : Option ℕ) × (r : Reason) × IsReason place r × IsSaid place r code a))

-- where a single file is refused for itself: it is too long, or spells no font
abbrev pub place_in_one : Reason → Option ℕ
place_in_one TooLong = Some 0
place_in_one (Font f) = Some 0
place_in_one other = None

-- a call over one file gives this answer of it
abbrev pub GivesOne : Result (List ℕ) Reason → ℕ → Answer → Type 0
GivesOne answer = CallGives (λ text. answer ≡ Ok text) (λ place r. (place ≡ place_in_one r) × (answer ≡ Err r))

-- a call over one file gives what its font is answered with
abbrev pub GivesOf : (FontValue → Result (List ℕ) Reason) → List ℕ → ℕ → Answer → Type 0
GivesOf answer file = GivesOne (of_file answer file)

-- a call over one file gives what the font is answered with that it spells widely, without the test whether it was loaded before
abbrev pub GivesMended : (FontValue → Result (List ℕ) Reason) → List ℕ → ℕ → Answer → Type 0
GivesMended answer file = GivesOne (of_mended answer file)

-- a call over one file gives an answer of its font, or of why it spells none
abbrev pub GivesAnswer : (FontValue → Result (List ℕ) Reason → Type 0) → List ℕ → ℕ → Answer → Type 0
GivesAnswer Answers file =
    CallGives (λ text. OfThere Answers (font_input file) (Ok text)) (λ place r. (place ≡ place_in_one r) × OfThere Answers (font_input file) (Err r))

-- a call over several files gives an answer to what all of them say
abbrev pub GivesFiles : {A : Type 0} → (List ℕ → Result A Reason) → (List A → Result (List ℕ) Reason → Type 0) → List (List ℕ) → ℕ → Answer → Type 0
GivesFiles understand Answers files = CallGives (λ text. OfFiles understand Answers files (Ok text)) (RefusedAt understand Answers files)

-- a call that takes the number of a form, or of a way of pooling, does this; a number that none has is a bad call
abbrev pub In : {A : Type 0} → Option A → (A → ℕ → Answer → Type 0) → ℕ → Answer → Type 0
In None Does code a = HasNothing bad_call code a
In (Some x) Does code a = Does x code a

-- of a call that takes the number of a form this holds, if a form has the number
abbrev pub IfForm : Option Form → (Form → Type 0) → Type 0
IfForm None P = Unit {0}
IfForm (Some form) P = P form

-- this text is given, unless a growth was refused
abbrev pub GivesText : ℕ → Answer → List ℕ → Type 0
GivesText code a text = HasNothing memory code a ⊎ HasWhole text code a

-- ---- documents

-- the labels of so many documents: their places from 0, in decimal
abbrev pub place_labels : ℕ → List (List ℕ)
place_labels count = map decimal (range_with_len 0 count)

-- A call that levels documents gives each in an answer of its own; or it tells in the first answer why they can't be read; or a
-- growth was refused, and no answer holds anything.
abbrev pub GivesLevels : List (List ℕ) → ℕ → List Answer → Type 0
GivesLevels documents code answers =
    HaveNothing memory code answers
    ⊎ (((texts : List (List ℕ)) × SaidBy file_input (λ files. LevelsFiles files texts) documents × HaveTexts texts code answers)
    ⊎ ((place : Option ℕ) × (r : Reason) × IsUnread file_input documents place r × FirstSays place r code answers))
