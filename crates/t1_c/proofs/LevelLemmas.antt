-- Files that are levelled are as many as those that were given.
use Rattle.std.proofs.Common.{◌≡◌, ℕ, suc, ◌+◌, List, [], ◌∷◌, length, refl, sym, ap, ◌∙◌, Result, Ok, Err}
use Rattle.std.proofs.lemmas.List.{length-map}
use Rattle.t1_cmd.specs.{declared.faults.Reason.{Reason}, Files.{Values, value_before, values_from, SaidBy}, Documents.{file_input}, Levels.{LevelsFiles, levelled_file}}
use Rattle.t1_document.specs.Joins.{new_texts}

module _ {A : Type 0} (understand : List ℕ → Result A Reason) where
  -- equal successes have equal values
  same_Ok : (xs ys : List A) → ◌≡◌ {A = Values A} (Ok xs) (Ok ys) → xs ≡ ys
  same_Ok xs ys e = cc

  -- files say as many values
  pub values_long : (place : ℕ) (files : List (List ℕ)) (values : List A) → values_from understand place files ≡ Ok values → length values ≡ length files
  values_long place [] values e = ap length (sym (same_Ok [] values e))
  values_long place (file ∷ files) values e = by_values (understand file) (values_from understand (place + 1) files) refl e (values_long (place + 1) files)
    where
      by_values : (r : Result A Reason) (v : Values A) → values_from understand (place + 1) files ≡ v → value_before place r v ≡ Ok values →
          ((xs : List A) → values_from understand (place + 1) files ≡ Ok xs → length xs ≡ length files) → length values ≡ suc (length files)
      by_values (Err r) v k h more = absurd cc
      by_values (Ok x) (Err f) k h more = absurd cc
      by_values (Ok x) (Ok xs) k h more = ap length (sym (same_Ok (x ∷ xs) values h)) ∙ ap suc (more xs k)

-- and as many files are levelled
pub levels_long : (files out : List (List ℕ)) → SaidBy file_input (λ fs. LevelsFiles fs out) files → length out ≡ length files
levels_long files out s =
    ap length s.2.2 ∙ (length-map s.0 (levelled_file (new_texts s.2.0)) ∙ values_long file_input 0 files s.0 s.1)
