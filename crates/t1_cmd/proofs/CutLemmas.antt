-- Truncated subsets of one font rejoin to the subset over all the names, and each glyph that is drawn stays drawn.
use Rattle.std.proofs.Common.{◌≡◌, ℕ, ◌+◌, refl, sym, ◌∙◌, ap, subst, List, [], ◌∷◌, map, inl, inr, Option, Some, None, Result, Ok, Err, option_and_then, IsPermutation}
use Rattle.std.proofs.lemmas.List.Sorted.{IsPermutation-refl}
use Rattle.std.specs.{Prelude.{IfOk, IfErr, MatchResult, is_some}, List.{AllByRecursion}, Result.{result_ok}}
use Rattle.t1_bytes.specs.declared.form.Form.{Form}
use Rattle.t1_font.specs.{FontValue.{FontValue, CharStrings}, IsFont.{IsFont}, Canon.{canon}, Normalizing.{indices_of_all, normalized_shells, normalized}}
use Rattle.t1_font.specs.{Filling.{AreLight}, Renewing.{Renewed}}
use Rattle.t1_text.specs.Boxes.{Box}
use Rattle.t1_join.{specs.Groupings.{one, from_left}, proofs.OrderLemmas.{leaves_from_left}}
use Rattle.t1_algebra.specs.{Interpreter.{Names}, Profile.{profile}, Keep.{subset, IsOf}, Merges.{ComesTo}, Lacks.{first_lack}, Normalized.{EachBeside}}
use Rattle.t1_algebra.specs.Rejoins.{cut_to, with_normal_texts, Truncated, IsTruncated, truncated_fonts, truncated_sets, largest, GetBox, boxed_as, shared_font, rejoined, Rejoins}
use Rattle.t1_algebra.proofs.{Fonts.{subset_is_font}, rejoining.Unlacking.{unlacking_draw}, rejoining.Boxed.{truncated_subsets_rejoin}}
use Rattle.t1_algebra.proofs.rejoining.Renewed.{normalized_renewed, shells_stay}
use Rattle.t1_subset.proofs.Answered.{draws_all}
use Rattle.t1_document.proofs.Drawn.{drawn_through, shells_are_fonts, each_filled, comes_to_font}
use Rattle.t1_subset.proofs.Rejoining.{light_or_heavy}
use Rattle.t1_cmd.specs.{declared.counting.Counted.{Counted}, declared.faults.Reason.{Reason}, declared.faults.Reason.TheVariants.{Memory}, declared.faults.RunFault.{RunFault}}
use Rattle.t1_cmd.specs.{declared.faults.FilesRefusal.{FilesRefusal}, Inputs.{Input, value_and, values_of}, Files.{Values, value_before, values_from, OfFiles, RefusesFiles}, Runs.{RunEnds}}
use Rattle.t1_cmd.specs.{Fonts.{mended_input}, Rejoins.{RejoinsUnless, RejoinsTo}, Cuts.{AreCutFiles, OfRejoined, InputsAreCuts, WritesRejoined, IsRejoined}}
use Rattle.t1_cmd.proofs.{OneAnswer.{OneAnswer, files_answered, inputs_answered}, RejoinLemmas.{all_light, rejoins_unlacking, with_no_lack, has_no_lack, rejoins_apart}}
use Rattle.std.specs.FinMap as maps

-- ---- what truncated subsets rejoin to

-- a font with a box has the glyphs that it had
same_glyphs : (o : Option Box) (f : FontValue) → (boxed_as o f).glyphs ≡ f.glyphs
same_glyphs None f = refl
same_glyphs (Some u) f = refl

module _ (f : FontValue) (h : IsFont f) (form : Form) (t : Truncated) (ts : List Truncated) (all : AllByRecursion (IsTruncated f) (t ∷ ts))
    (o : Option Box) (get : GetBox f (t ∷ ts) o) where
  abbrev cuts : List FontValue
  cuts = truncated_fonts (t ∷ ts)

  abbrev whole : FontValue
  whole = rejoined f (t ∷ ts) o

  abbrev shared : FontValue
  shared = shared_font f (t ∷ ts) o

  they_rejoin : Rejoins f (t ∷ ts) o
  they_rejoin = truncated_subsets_rejoin f h t ts all o get

  -- the names are names of the font that they share
  names_of_shared : (us : List Truncated) → AllByRecursion (IsTruncated f) us → AllByRecursion (IsOf shared) (truncated_sets us)
  names_of_shared [] k = tt
  names_of_shared (u ∷ us) k = (
    λ n e. ap (λ (m : CharStrings). is_some (maps.get m n)) (same_glyphs o (cut_to (largest (t ∷ ts)) (with_normal_texts f))) ∙ k.0.names n e,
    names_of_shared us k.1,
  )

  -- the subsets of that font are fonts
  are_fonts : (names : List Names) → AllByRecursion (IsOf shared) names → AllByRecursion IsFont (map (subset profile shared) names)
  are_fonts [] k = tt
  are_fonts (a ∷ more) k = (subset_is_font profile shared they_rejoin.shared a k.0, are_fonts more k.1)

  -- normalized, they are within the weight limit
  light : AreLight (normalized cuts)
  light = subst AreLight (sym they_rejoin.subsets) (all_light (map (subset profile shared) (truncated_sets (t ∷ ts)))
      (are_fonts (truncated_sets (t ∷ ts)) (names_of_shared (t ∷ ts) all)))

  -- normalized, they come to the subset over all the names, and to no other font
  comes_so : (fs : List FontValue) → normalized cuts ≡ fs → (j : FontValue) → (j ≡ whole → ComesTo fs j) × (ComesTo fs j → j ≡ whole)
  comes_so [] e j = absurd (some_there e)
    where
      some_there : normalized cuts ≡ [] → ⊥
      some_there e = let never : map (subset profile shared) (truncated_sets (t ∷ ts)) ≡ [] = sym they_rejoin.subsets ∙ e in cc
  comes_so (e ∷ es) is j =
      let g = from_left (one e) es in
      let order : IsPermutation (normalized cuts) (e ∷ es) = subst (IsPermutation (normalized cuts)) is (IsPermutation-refl (normalized cuts)) in
      let m = they_rejoin.merges g (subst (IsPermutation (normalized cuts)) (sym (leaves_from_left (one e) es)) order) in
      (λ same. subst (ComesTo (e ∷ es)) (sym same) m.0, λ comes. m.1 j comes)

  -- they have one answer, the canonical file of that subset
  one_answer : OneAnswer mended_input (RejoinsTo form) cuts (canon whole form)
  one_answer = record { text = the_text; reason = the_reason }
    where
      the_text_of : (text : List ℕ) → RejoinsUnless None form cuts (Ok text) → text ≡ canon whole form
      the_text_of text (inl a) = a.1.2 ∙ ap (λ (j : FontValue). canon j form) ((comes_so (normalized cuts) refl a.1.0).1 a.1.1)
      the_text_of text (inr a) = absurd (light_or_heavy (normalized cuts) light a.0)

      the_text : (text : List ℕ) → RejoinsTo form cuts (Ok text) → text ≡ canon whole form
      the_text text h = the_text_of text (has_no_lack form cuts (Ok text) they_rejoin.lacks h)

      the_reason : (r : Reason) → RejoinsTo form cuts (Err r) → r ≡ Memory
      the_reason r a =
          let there : RejoinsTo form cuts (Ok (canon whole form)) =
          with_no_lack form cuts (Ok (canon whole form)) they_rejoin.lacks (inl (light, (whole, (comes_so (normalized cuts) refl whole).0 refl, refl))) in
          rejoins_apart form cuts (canon whole form) r there a

-- ---- files

module _ (f : FontValue) where
  -- what the files of truncated subsets say
  files_said : (place : ℕ) (ts : List Truncated) (files : List (List ℕ)) → AreCutFiles f ts files →
      values_from mended_input place files ≡ Ok (truncated_fonts ts)
  files_said place [] [] s = refl
  files_said place [] (file ∷ files) s = absurd s
  files_said place (t ∷ ts) [] s = absurd s
  files_said place (t ∷ ts) (file ∷ files) s =
      ap (λ (r : Result FontValue Reason). value_before place r (values_from mended_input (place + 1) files)) s.0.1
      ∙ ap (λ (rest : Values FontValue). value_before place (Ok t.font) rest) (files_said (place + 1) ts files s.1)

  files_cut : (ts : List Truncated) (files : List (List ℕ)) → AreCutFiles f ts files → AllByRecursion (IsTruncated f) ts
  files_cut [] [] s = tt
  files_cut [] (file ∷ files) s = absurd s
  files_cut (t ∷ ts) [] s = absurd s
  files_cut (t ∷ ts) (file ∷ files) s = (s.0.0, files_cut ts files s.1)

  -- ---- inputs

  -- what the inputs say
  inputs_said : (ts : List Truncated) (is : List Input) → InputsAreCuts f ts is → values_of mended_input is ≡ Some (truncated_fonts ts)
  inputs_said [] [] s = refl
  inputs_said [] (i ∷ is) s = absurd s
  inputs_said (t ∷ ts) [] s = absurd s
  inputs_said (t ∷ ts) (i ∷ is) s =
      let rest = values_of mended_input is in
      ap (λ (k : Option (List ℕ)). value_and (option_and_then (λ bytes. result_ok (mended_input bytes)) k) rest) s.0.2
      ∙ (ap (λ (r : Result FontValue Reason). value_and (result_ok r) rest) s.0.1.1 ∙ ap (value_and (Some t.font)) (inputs_said ts is s.1))

  inputs_cut : (ts : List Truncated) (is : List Input) → InputsAreCuts f ts is → AllByRecursion (IsTruncated f) ts
  inputs_cut [] [] s = tt
  inputs_cut [] (i ∷ is) s = absurd s
  inputs_cut (t ∷ ts) [] s = absurd s
  inputs_cut (t ∷ ts) (i ∷ is) s = (s.0.1.0, inputs_cut ts is s.1)

-- a call that rejoins the files of truncated subsets of one font answers the subset over all the names, unless a growth was refused
pub rejoins_cut_files : {V : Type 0} (form : Form) (files : List (List ℕ)) (view : V → List ℕ) (result : Result V FilesRefusal) →
    IfOk result (λ v. OfFiles mended_input (RejoinsTo form) files (Ok (view v))) → IfErr result (RefusesFiles mended_input (RejoinsTo form) files) →
    OfRejoined form files (λ whole. MatchResult result (λ v. view v ≡ whole) (λ e. (e.place ≡ None) × (e.reason ≡ Memory)))
rejoins_cut_files form files view result d r f h t ts s o get =
    files_answered mended_input (RejoinsTo form) (truncated_fonts (t ∷ ts)) (canon (rejoined f (t ∷ ts) o) form)
    (one_answer f h form t ts (files_cut f (t ∷ ts) files s) o get) files (files_said f 0 (t ∷ ts) files s) view result d r

-- an engine that ends as rejoining does writes it
pub writes_rejoined : {W : Type 0} (contents : W → Option (List ℕ)) (form : Form) (is : List Input) (w v : Counted W) (result : Result (Unit {0}) RunFault) →
    RunEnds mended_input (RejoinsTo form) contents is w v result → WritesRejoined contents form is w v result
writes_rejoined contents form is w v result ends f h t ts s o get =
    inputs_answered mended_input (RejoinsTo form) (truncated_fonts (t ∷ ts)) (canon (rejoined f (t ∷ ts) o) form)
    (one_answer f h form t ts (inputs_cut f (t ∷ ts) is s) o get) is (inputs_said f (t ∷ ts) is s) contents w v result ends

-- ---- what draws as it did

-- normalized fonts are fonts where they are within the weight limit
normalized_are_fonts : (fs : List FontValue) → AllByRecursion IsFont fs → AreLight (normalized fs) → AllByRecursion IsFont (normalized fs)
normalized_are_fonts fs h fit = each_filled (indices_of_all (normalized_shells fs)) (normalized_shells fs) (shells_are_fonts fs h) fit

-- ---- kept texts

-- texts that are renewed in fonts of which each has the shell of j are renewed in j
renewed_through : (fs es : List FontValue) (j : FontValue) → EachBeside (λ f g. Renewed f.shell g.shell) fs es → AllByRecursion (λ e. e.shell ≡ j.shell) es →
    AllByRecursion (λ f. Renewed f.shell j.shell) fs
renewed_through [] [] j s h = tt
renewed_through [] (e ∷ es) j s h = absurd s
renewed_through (f ∷ fs) [] j s h = absurd s
renewed_through (f ∷ fs) (e ∷ es) j s h = (subst (Renewed f.shell) h.0 s.0, renewed_through fs es j s.1 h.1)

-- ---- both

rejoined_so : (form : Form) (fs : List FontValue) (bytes : List ℕ) → AllByRecursion IsFont fs → first_lack (normalized_shells fs) ≡ None →
    RejoinsUnless None form fs (Ok bytes) → IsRejoined form fs bytes
rejoined_so form fs bytes h none (inl a) =
    let j = a.1.0 in
    let joined = comes_to_font (normalized fs) j (normalized_are_fonts fs h a.0) a.1.1 in
    record {
      font = j;
      is_font = joined;
      file = a.1.2;
      draws = drawn_through fs (normalized fs) j h joined (unlacking_draw.all fs none) (draws_all (normalized fs) (Ok j) a.1.1);
      texts = renewed_through fs (normalized fs) j (normalized_renewed fs) (shells_stay (normalized fs) j a.1.1);
    }
rejoined_so form fs bytes h none (inr a) = absurd a.1

-- what fonts rejoin to is the file of a font in which each of their glyphs draws as it did, with the texts of each
pub rejoined_any : (form : Form) (fs : List FontValue) (bytes : List ℕ) → AllByRecursion IsFont fs → RejoinsTo form fs (Ok bytes) → IsRejoined form fs bytes
rejoined_any form fs bytes h k = let un = rejoins_unlacking form fs bytes k in rejoined_so form fs bytes h un.0 un.1
