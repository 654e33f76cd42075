-- The written subsets of one font merge to the subset over all the names.
use Rattle.std.proofs.Common.{◌≡◌, ◌≤◌, ℕ, ◌+◌, false, Bool, nat_lt, if◌then◌else◌, refl, ◌∙◌, ap, subst, List, [], ◌∷◌, map, length, Option, None, Some, Result, Ok, Err, option_and_then}
use Rattle.std.proofs.lemmas.Bool.{le-ltb}
use Rattle.std.specs.{Prelude.{IfOk, IfErr, MatchResult}, List.{AllByRecursion}, Result.{result_ok}}
use Rattle.t1_bytes.specs.{declared.form.Form.{Form}, Limits.{file_limit}}
use Rattle.t1_font.{specs.{FontValue.{FontValue}, IsFont.{IsFont}, Canon.{canon, Fits}, ReadFont.{read_font}}, proofs.canonical.LengthLemmas.{canon_short}}
use Rattle.t1_subset.{specs.{declared.conflict.Conflict.{Conflict as Refusal}, Merger.{NotMerged}}, proofs.Answered.{of_all_subsets}}
use Rattle.t1_algebra.{specs.{Interpreter.{Names}, Profile.{profile}, Keep.{subset, IsOf}, Groupings.{union_all}}, proofs.{Fonts.{subset_is_font}, Headline.{subset_again}}}
use Rattle.t1_cmd.specs.{declared.counting.Counted.{Counted}, declared.faults.Reason.{Reason}}
use Rattle.t1_cmd.specs.declared.faults.Reason.TheVariants.{TooLong, Memory, List as ListReason, Join as JoinReason, Font, NoGlyph, NoCode}
use Rattle.t1_cmd.specs.declared.faults.Reason.TheVariants.{NoFont, Document as DocumentReason, TooManyTokens, Lacks, Merge}
use Rattle.t1_cmd.specs.{declared.faults.RunFault.{RunFault}}
use Rattle.t1_cmd.specs.{Inputs.{Input, values_of, value_and}, Answers.{with_reason}, declared.faults.FilesRefusal.{FilesRefusal}, Files.{Values, value_before, values_from, OfFiles, RefusesFiles}}
use Rattle.t1_cmd.specs.{Runs.{RunEnds}, Fonts.{font_input, font_reason}, Mergers.{IsTold, MergesToFile}, WrittenSubsets.{AreSubsetFiles, OfUnion, IsSubset, AreSubsets, WritesUnion}}
use Rattle.t1_cmd.proofs.OneAnswer.{OneAnswer, files_answered, inputs_answered}

-- a length within the limit is not over it
not_over : (n : ℕ) → n ≤ file_limit → nat_lt file_limit n ≡ false
not_over n h = le-ltb file_limit n h

module _ (f : FontValue) (h : IsFont f) where
  -- what a written subset says
  subset_said : (a : Names) (form : Form) → IsOf f a → Fits form f → font_input (canon (subset profile f a) form) ≡ Ok (subset profile f a)
  subset_said a form i k =
      let file = canon (subset profile f a) form in
      ap (λ (b : Bool). if b then Err TooLong else with_reason font_reason (read_font file))
      (not_over (length file) (canon_short (subset profile f a) form (subset_is_font profile f h a i)))
      ∙ ap (with_reason font_reason) (subset_again f h a form i k)

  -- ---- what is merged

  module _ (form : Form) (a : Names) (more : List Names) (named : AllByRecursion (IsOf f) (a ∷ more)) where
    abbrev fonts : List FontValue
    fonts = map (subset profile f) (a ∷ more)

    abbrev union : FontValue
    union = subset profile f (union_all (a ∷ more))

    -- the text of an answer is the union's
    text_is : (text : List ℕ) → MergesToFile form fonts (Ok text) → text ≡ canon union form
    text_is text d = d.2 ∙ ap (λ (j : FontValue). canon j form) (of_all_subsets fonts (Ok d.0) d.1 tt f h a more named refl)

    -- an answer is no refusal
    not_told : (e : Refusal) → NotMerged fonts e → IsTold e → ⊥
    not_told e d t = subst IsTold (of_all_subsets fonts (Err e) tt d f h a more named refl) t

    -- the fonts are refused for want of memory alone
    refused_so : (r : Reason) → MergesToFile form fonts (Err r) → r ≡ Memory
    refused_so TooLong d = absurd d
    refused_so Memory d = refl
    refused_so (ListReason x) d = absurd d
    refused_so (JoinReason x) d = absurd d
    refused_so (Font x) d = absurd d
    refused_so (NoGlyph x) d = absurd d
    refused_so (NoCode code) d = absurd d
    refused_so (DocumentReason why) d = absurd d
    refused_so (NoFont x) d = absurd d
    refused_so TooManyTokens d = absurd d
    refused_so (Lacks g k) d = absurd d
    refused_so (Merge e) d = absurd (not_told e d.0 d.1)

    -- they have one answer, the canonical file of the union
    one_answer : OneAnswer font_input (MergesToFile form) fonts (canon union form)
    one_answer = record { text = text_is; reason = refused_so }

  -- ---- files

  -- what the files of subsets say
  files_said : (place : ℕ) (all : List Names) (files : List (List ℕ))
      → AreSubsetFiles f all files → values_from font_input place files ≡ Ok (map (subset profile f) all)
  files_said place [] [] s = refl
  files_said place [] (file ∷ files) s = absurd s
  files_said place (a ∷ more) [] s = absurd s
  files_said place (a ∷ more) (file ∷ files) s =
      let said : font_input file ≡ Ok (subset profile f a) = ap font_input s.0.1.2 ∙ subset_said a s.0.1.0 s.0.0 s.0.1.1 in
      ap (λ (r : Result FontValue Reason). value_before place r (values_from font_input (place + 1) files)) said
      ∙ ap (λ (rest : Values FontValue). value_before place (Ok (subset profile f a)) rest) (files_said (place + 1) more files s.1)

  -- the names are names of the font
  files_named : (all : List Names) (files : List (List ℕ)) → AreSubsetFiles f all files → AllByRecursion (IsOf f) all
  files_named [] [] s = tt
  files_named [] (file ∷ files) s = absurd s
  files_named (a ∷ more) [] s = absurd s
  files_named (a ∷ more) (file ∷ files) s = (s.0.0, files_named more files s.1)

  -- ---- inputs

  -- what the input of a subset says, before what others say
  said_by : (a : Names) (i : Input) → IsSubset f a i → (v : Option (List FontValue)) (fs : List FontValue) → v ≡ Some fs
      → value_and (option_and_then (λ bytes. result_ok (font_input bytes)) i.known) v ≡ Some (subset profile f a ∷ fs)
  said_by a i s v fs e =
      ap (λ (k : Option (List ℕ)). value_and (option_and_then (λ bytes. result_ok (font_input bytes)) k) v) s.1.2
      ∙ ap (λ (r : Result FontValue Reason). value_and (result_ok r) v) (subset_said a s.1.0 s.0 s.1.1)
      ∙ ap (value_and (Some (subset profile f a))) e

  -- what written subsets say
  values : (all : List Names) (is : List Input) → AreSubsets f all is → values_of font_input is ≡ Some (map (subset profile f) all)
  values [] [] s = refl
  values [] (i ∷ is) s = absurd s
  values (a ∷ more) [] s = absurd s
  values (a ∷ more) (i ∷ is) s = said_by a i s.0 (values_of font_input is) (map (subset profile f) more) (values more is s.1)

  -- the names are names of the font
  names_are : (all : List Names) (is : List Input) → AreSubsets f all is → AllByRecursion (IsOf f) all
  names_are [] [] s = tt
  names_are [] (i ∷ is) s = absurd s
  names_are (a ∷ more) [] s = absurd s
  names_are (a ∷ more) (i ∷ is) s = (s.0.0, names_are more is s.1)

-- an engine that ends as merging does writes the subset over all the names, for written subsets of one font
pub writes_union : {W : Type 0} (contents : W → Option (List ℕ)) (form : Form) (is : List Input) (w v : Counted W) (result : Result (Unit {0}) RunFault)
    → RunEnds font_input (MergesToFile form) contents is w v result → WritesUnion contents form is w v result
writes_union contents form is w v result ends f h a more s =
    inputs_answered font_input (MergesToFile form) (map (subset profile f) (a ∷ more)) (canon (subset profile f (union_all (a ∷ more))) form)
    (one_answer f h form a more (names_are f h (a ∷ more) is s)) is (values f h (a ∷ more) is s) contents w v result ends

-- what merges the files of subsets of one font answers the subset over all the names, unless a growth was refused
pub merges_to_union : {V : Type 0} (form : Form) (files : List (List ℕ)) (view : V → List ℕ) (result : Result V FilesRefusal)
    → IfOk result (λ v. OfFiles font_input (MergesToFile form) files (Ok (view v))) → IfErr result (RefusesFiles font_input (MergesToFile form) files)
    → OfUnion form files (λ union. MatchResult result (λ v. view v ≡ union) (λ e. (e.place ≡ None) × (e.reason ≡ Memory)))
merges_to_union form files view result d r f h a more s =
    files_answered font_input (MergesToFile form) (map (subset profile f) (a ∷ more)) (canon (subset profile f (union_all (a ∷ more))) form)
    (one_answer f h form a more (files_named f h (a ∷ more) files s)) files (files_said f h 0 (a ∷ more) files s) view result d r
