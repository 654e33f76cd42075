-- The lines of all conflicts of two fonts.
use Rattle.std.{proofs.{Common.{◌≡◌, ◌↔◌, ◌∙◌, ap, sym, refl, arith, ℕ, Bool, true, List, [], ◌∷◌, length, IfSome, Ok, Err}, lemmas.List.{length-append}}, specs.List.{flat_map}}
use Rattle.t1_font.specs.FontValue.{FontValue}
use Rattle.t1_algebra.specs.{Profile.{profile}, States.{Join}}
use Rattle.t1_subset.specs.{declared.conflict.Conflict.{Conflict}, FaultTexts.{conflict_text}}
use Rattle.t1_cmd.specs.{declared.faults.Reason.{Reason}, Inputs.{Input, values_of, Say}, Fonts.{font_input}, Files.{values_from}, Diffs.{conflict_line, SaysJoin, DiffersBy}}
use Rattle.t1_cmd.proofs.RunLemmas.{values_have}

-- conflicts without a line are none
no_lines : (es : List Conflict) → flat_map conflict_line es ≡ [] → es ≡ []
no_lines [] h = refl
no_lines (e ∷ es) h = absurd (
    let all = ap length h in
    let line = length-append (conflict_line e) (flat_map conflict_line es) in
    let end = length-append (conflict_text e) (10 ∷ []) in
    omega (arith, all, line, end))

-- the text of conflicts is empty exactly if there are none, and so exactly if the fonts join
pub no_text : (f g : FontValue) (es : List Conflict) (text : List ℕ) → text ≡ flat_map conflict_line es → (es ≡ []) ↔ Join profile f g
    → (text ≡ []) ↔ Join profile f g
no_text f g es text is joins = (λ e. joins.0 (no_lines es (sym is ∙ e)), λ j. is ∙ ap (flat_map conflict_line) (joins.1 j))

-- what two files say that both spell fonts
pub both_fonts : (first second : List ℕ) (left right : FontValue) → font_input first ≡ Ok left → font_input second ≡ Ok right
    → values_from font_input 0 (first ∷ second ∷ []) ≡ Ok (left ∷ right ∷ [])
both_fonts first second left right h k = rw h (rw k refl)

-- an answer that is whether the text is empty says whether the fonts of the inputs join
pub says_join : (is : List Input) (f g : FontValue) (joins : Bool) (text : List ℕ) → Say font_input is (f ∷ g ∷ []) → (joins ≡ true) ↔ (text ≡ [])
    → (text ≡ []) ↔ Join profile f g → IfSome (values_of font_input is) (SaysJoin joins)
says_join is f g joins text said empty same =
    values_have font_input (SaysJoin joins) is (f ∷ g ∷ []) said (λ j. same.0 (empty.0 j), λ j. empty.1 (same.1 j))

-- answers of two fonts are texts alone
pub never_refused : (fonts : List FontValue) (text : List ℕ) (r : Reason) → DiffersBy fonts (Ok text) → DiffersBy fonts (Err r) → r ≡ Reason.Memory
never_refused fonts text r a b = by fonts b
  where
    by : (fonts : List FontValue) → DiffersBy fonts (Err r) → r ≡ Reason.Memory
    by [] b = absurd b
    by (f ∷ []) b = absurd b
    by (f ∷ g ∷ []) b = absurd b
    by (f ∷ g ∷ h ∷ fonts) b = absurd b
