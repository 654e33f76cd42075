-- What is mended once is mended.
use Rattle.std.proofs.{Common.{◌≡◌, ◌∙◌, ap, subst, refl, ℕ, ◌+◌, Bool, true, false, nat_lt, if◌then◌else◌, List, [], ◌∷◌, ◌++◌, length, None, Result, Ok, Err}, lemmas.Bool.{le-ltb}}
use Rattle.std.specs.{Prelude.{IfOk}, List.{flat_map}}
use Rattle.t1_bytes.specs.{declared.form.Form.{Form}, Limits.{file_limit}, Laws.{AreBytes}}
use Rattle.t1_font.specs.{declared.fault.ReadFault.{ReadFault}, FontValue.{FontValue}, IsFont.{IsFont}, Canon.{canon, Fits}}
use Rattle.t1_font.specs.UntestedFonts.{untested_font}
use Rattle.t1_text.specs.{FontTest.{taken_test}, Dialect.{strict, wide}}
use Rattle.t1_font.specs.{ReadFont.{read_font, read_font_widely}, Mends.{mends_in, mends_by_rules, mends_by_test}}
use Rattle.t1_font.proofs.{Spelled.{reads, reads_again}, Widely.{spells_widely}, canonical.RoundTrip.{round_trip}, canonical.LengthLemmas.{canon_short}}
use Rattle.t1_text.proofs.Untested.{untested_twice}
use Rattle.t1_font.proofs.UntestedFonts.{untested_is_font}
use Rattle.t1_font.proofs.{read_fonts.ReadFontLaws.{read_is_font}, Mended.{tells_the_test}}
use Rattle.t1_cmd.specs.{declared.faults.Reason.{Reason}, declared.faults.Reason.TheVariants.{TooLong}, declared.faults.RunFault.TheVariants.{Refused}, Inputs.{Input, Holds}, Runs.{Stops}}
use Rattle.t1_cmd.specs.{Answers.{with_reason, if_there, MayRefuse, Prints}, Fonts.{font_reason, font_input, mended_input, file_answer}, Files.{value_before, values_from}}
use Rattle.t1_cmd.specs.Mends.{mend_line, mends_answer, IsMendedFile, AreMendedFiles, MendsAgain, MendsNothing, MendedIsSpelled, TellsNothing, RejoinsMended}
use Rattle.t1_cmd.proofs.{Refusals.{by_answer, says_so, input_stops}, RunLemmas.{stops_after}}

-- ---- the font of a file

-- what an input is mended to, by whether it is too long and what is read of it widely
abbrev mended_by : Bool → Result FontValue ReadFault → Result FontValue Reason
mended_by long r = if long then Err TooLong else if_there (λ f. Ok (untested_font f)) (with_reason font_reason r)

-- a font without its test has none to lose
font_twice : (f : FontValue) → untested_font (untested_font f) ≡ untested_font f
font_twice f = λ i. record {
  shell = record {
    head = untested_twice f.shell.head i;
    clear_tail = f.shell.clear_tail;
    private = f.shell.private;
    middle = f.shell.middle;
    tail = f.shell.tail;
    len_iv = f.shell.len_iv;
    subrs = f.shell.subrs;
    glyphs_rd = f.shell.glyphs_rd;
    glyphs_def = f.shell.glyphs_def;
  };
  encoding = f.encoding;
  subrs = f.subrs;
  glyphs = f.glyphs;
}

-- what a file of bytes is mended to is a font that has no test to lose
pub mended_font : (file : List ℕ) (f : FontValue) → AreBytes file → mended_input file ≡ Ok f → IsFont f × (untested_font f ≡ f)
mended_font file f bytes = by (nat_lt file_limit (length file)) (read_font_widely file) refl
  where
    by : (long : Bool) (r : Result FontValue ReadFault) → read_font_widely file ≡ r → mended_by long r ≡ Ok f → IsFont f × (untested_font f ≡ f)
    by true r e h = cc
    by false (Err fault) e h = cc
    by false (Ok g) e h =
        let same : untested_font g ≡ f = cc in
        subst (λ (f : FontValue). IsFont f × (untested_font f ≡ f)) same ((untested_is_font g (read_is_font wide file g bytes e)).0, font_twice g)

-- the canonical file of a font is read as the font widely, too
widely_again : (f : FontValue) (form : Form) → IsFont f → Fits form f → read_font_widely (canon f form) ≡ Ok f
widely_again f form h k =
    let file = canon f form in
    reads_again wide file f (spells_widely file f (reads strict file f (round_trip f form h k)))

-- the canonical file of a font that has no test to lose is mended to the font
pub mended_again : (f : FontValue) (form : Form) → IsFont f → Fits form f → untested_font f ≡ f → mended_input (canon f form) ≡ Ok f
mended_again f form h k same =
    let file = canon f form in
    ap (λ (long : Bool). mended_by long (read_font_widely file)) (le-ltb file_limit (length file) (canon_short f form h))
    ∙ ap (mended_by false) (widely_again f form h k)
    ∙ ap {B = Result FontValue Reason} (λ (f : FontValue). Ok f) same

-- the canonical file of a font spells the font
spelled_again : (f : FontValue) (form : Form) → IsFont f → Fits form f → font_input (canon f form) ≡ Ok f
spelled_again f form h k =
    let file = canon f form in
    ap (λ (long : Bool). if long then Err TooLong else with_reason font_reason (read_font file))
    (le-ltb file_limit (length file) (canon_short f form h)) ∙ ap (with_reason font_reason) (round_trip f form h k)

-- ---- files

-- a mended file spells the font that the file is mended to
pub same_font : (form : Form) (file text : List ℕ) → IsMendedFile form file text → mended_input text ≡ mended_input file
same_font form file text s = by (mended_input file) refl s.1 s.2
  where
    by : (r : Result FontValue Reason) → mended_input file ≡ r → if_there (file_answer form) r ≡ Ok text → IfOk r (Fits form) → mended_input text ≡ r
    by (Err reason) e h k = cc
    by (Ok f) e h k =
        let font = mended_font file f s.0 e in
        let written : canon f form ≡ text = cc in
        subst (λ (t : List ℕ). mended_input t ≡ Ok f) written (mended_again f form font.0 k font.1)

-- a mended file spells the font, too
pub mended_is_spelled : MendedIsSpelled
mended_is_spelled form file text s = by (mended_input file) refl s.1 s.2
  where
    by : (r : Result FontValue Reason) → mended_input file ≡ r → if_there (file_answer form) r ≡ Ok text → IfOk r (Fits form) → font_input text ≡ r
    by (Err reason) e h k = cc
    by (Ok f) e h k =
        let written : canon f form ≡ text = cc in
        subst (λ (t : List ℕ). font_input t ≡ Ok f) written (spelled_again f form (mended_font file f s.0 e).0 k)

-- a mended file is mended, in each form, to what the file is mended to
pub mends_again : MendsAgain
mends_again written form file text s = ap (if_there (file_answer form)) (same_font written file text s)

-- the canonical file of a font whose head has no test to lose is mended to itself
pub mends_nothing : MendsNothing
mends_nothing f form h k same = ap (if_there (file_answer form)) (mended_again f form h k same)

-- mended files say the same fonts as the files, whatever the place of the first
same_fonts : (place : ℕ) (files texts : List (List ℕ)) → AreMendedFiles files texts
    → values_from mended_input place texts ≡ values_from mended_input place files
same_fonts place [] [] s = refl
same_fonts place [] (text ∷ texts) s = absurd s
same_fonts place (file ∷ files) [] s = absurd s
same_fonts place (file ∷ files) (text ∷ texts) s =
    λ i. value_before place (same_font s.0.0 file text s.0.1 i) (same_fonts (place + 1) files texts s.1 i)

-- mended files are rejoined as the same fonts as the files
pub rejoins_mended : RejoinsMended
rejoins_mended = same_fonts 0

-- ---- what is told

-- what is told of a file, by whether it is too long and what is read of it widely
abbrev told_by : List ℕ → Bool → Result FontValue ReadFault → Result (List ℕ) Reason
told_by file long r = if long then Err TooLong else if_there (λ mends. Ok (flat_map mend_line mends)) (with_reason font_reason (mends_in file r))

-- a file of which nothing is told for a reason is not mended for it
told_refused : (file : List ℕ) (r : Reason) → Err r ≡ mends_answer file → Err r ≡ mended_input file
told_refused file r h = by (nat_lt file_limit (length file)) (read_font_widely file) h
  where
    by : (long : Bool) (o : Result FontValue ReadFault) → Err r ≡ told_by file long o → Err r ≡ mended_by long o
    by true o e = cc
    by false (Ok f) e = cc
    by false (Err fault) e = cc

-- so it stops the engine
pub told_stops : (answer : FontValue → Result (List ℕ) Reason) (i : Input) (file : List ℕ) (r : Reason) → Holds i file →
    MayRefuse (λ a. a ≡ mends_answer file) r → Stops mended_input (Prints answer) (i ∷ []) (Refused r)
told_stops answer i file r has = by_answer (λ a. a ≡ mends_answer file) (λ s. Stops mended_input (Prints answer) (i ∷ []) (Refused s)) r tt (λ s h.
    stops_after mended_input (Prints answer) [] i [] (Refused s) tt
    (input_stops mended_input i s (says_so mended_input i file (Err s) has (told_refused file s h))))

-- of a mended file nothing is told
nothing_told : (f : FontValue) (form : Form) → IsFont f → Fits form f → untested_font f ≡ f → mends_answer (canon f form) ≡ Ok []
nothing_told f form h k same =
    let file = canon f form in
    let none : taken_test f.shell.head ≡ None = (tells_the_test f.shell.head).1 (ap (λ (g : FontValue). g.shell.head) same) in
    ap (λ (long : Bool). told_by file long (read_font_widely file)) (le-ltb file_limit (length file) (canon_short f form h))
    ∙ (ap (told_by file false) (widely_again f form h k)
    ∙ (λ i. Ok (flat_map mend_line (mends_by_rules file (round_trip f form h k i) ++ mends_by_test (none i)))))

pub tells_nothing : TellsNothing
tells_nothing form file text s = by (mended_input file) refl s.1 s.2
  where
    by : (r : Result FontValue Reason) → mended_input file ≡ r → if_there (file_answer form) r ≡ Ok text → IfOk r (Fits form) → mends_answer text ≡ Ok []
    by (Err reason) e h k = cc
    by (Ok f) e h k =
        let font = mended_font file f s.0 e in
        let written : canon f form ≡ text = cc in
        subst (λ (t : List ℕ). mends_answer t ≡ Ok []) written (nothing_told f form font.0 k font.1)
