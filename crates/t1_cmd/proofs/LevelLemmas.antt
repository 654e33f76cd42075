-- Documents that are levelled, each by itself.
use Rattle.std.proofs.Common.{◌≡◌, ◌∙◌, ◌<◌, ◌≤◌, ◌+◌, ℕ, List, [], ◌∷◌, ◌++◌, length, get_or, drop, map, refl, sym, ap, arith, append_assoc, Bor, Vec}
use Rattle.std.proofs.{Common.{Option, Some, None, Result, Ok, Err, IfErr, IsSome, IsOkUnless}, lemmas.Bool.{false≢true}, lemmas.List.{append-nil, drop_more, drop_all, length-map}}
use Rattle.t1_jobs.specs.Jobs.{with_document}
use Rattle.t1_subset.specs.NameSets.{lent}
use Rattle.t1_document.specs.Rewriting.{NewTexts, levelled}
use Rattle.t1_cmd.specs.Levels.{carried, levelled_file, files_with}
use Rattle.t1_cmd.specs.{declared.faults.Reason.{Reason}}
use Rattle.t1_cmd.specs.declared.faults.Reason.TheVariants.{TooLong, Memory, List as ListReason, Join as JoinReason, Font, NoGlyph, NoCode}
use Rattle.t1_cmd.specs.declared.faults.Reason.TheVariants.{NoFont, Document as DocumentReason, TooManyTokens, Lacks, Merge}
use Rattle.t1_cmd.specs.{declared.faults.RunFault.{RunFault}, declared.faults.RunFault.TheVariants.{Refused, Read, Write}, Inputs.{Input, AllQuiet, values_of}, Mergers.{InputsStop}}
use Rattle.t1_cmd.proofs.RunLemmas.{first_refused, first_failed}

-- files with their documents levelled
pub with_levelled : (new : NewTexts) (files : List (List ℕ)) → files_with files (map (levelled new) (map carried files)) ≡ map (levelled_file new) files
with_levelled new [] = refl
with_levelled new (f ∷ fs) = ap (λ (ts : List (List ℕ)). levelled_file new f ∷ ts) (with_levelled new fs)

module _ {Z : Type 0} (files : List (Bor (List ℕ))) (documents : List (Vec ℕ Z)) where
  -- what is left of both
  abbrev left : ℕ → List (List ℕ)
  left i = files_with (lent (drop i files)) (map (λ d. d.items) (drop i documents))

  -- one file more
  pub one_file : (i : ℕ) (f : Bor (List ℕ)) (d : Vec ℕ Z) → i < length files → length files ≡ length documents →
      (all out more : List (List ℕ)) →
      more ≡ out ++ with_document (get_or files i f).now (get_or documents i d).items ∷ [] → out ++ left i ≡ all → more ++ left (i + 1) ≡ all
  one_file i f d lt same all out more is was =
      let next : left i ≡ with_document (get_or files i f).now (get_or documents i d).items ∷ left (i + 1) =
      λ k. files_with (lent (drop_more files i f lt k)) (map (λ e. e.items) (drop_more documents i d (omega (arith, lt, same)) k)) in
      ap (λ (ts : List (List ℕ)). ts ++ left (i + 1)) is
      ∙ (append_assoc out (with_document (get_or files i f).now (get_or documents i d).items ∷ []) (left (i + 1))
      ∙ (ap (λ (ts : List (List ℕ)). out ++ ts) (sym next) ∙ was))

  -- in the end none is left
  pub all_files : (i : ℕ) → length files ≤ i → (all out : List (List ℕ)) → out ++ left i ≡ all → out ≡ all
  all_files i le all out was =
      let none : left i ≡ [] = ap (λ (fs : List (Bor (List ℕ))). files_with (lent fs) (map (λ d. d.items) (drop i documents))) (drop_all i files le) in
      sym (append-nil out) ∙ (ap (λ (ts : List (List ℕ)). out ++ ts) (sym none) ∙ was)

-- as many documents are levelled as there are files
pub same_count : {Z : Type 0} (new : NewTexts) (files : List (Bor (List ℕ))) (texts : List (Vec ℕ Z)) →
    map (λ t. t.items) texts ≡ map (levelled new) (map carried (lent files)) → length files ≡ length texts
same_count new files texts e =
    omega (
      arith,
      ap length e,
      length-map texts (λ t. t.items),
      length-map (map carried (lent files)) (levelled new),
      length-map (lent files) carried,
      length-map files (λ f. f.now),
    )

-- ---- how reading stops

module _ {A : Type 0} (understand : List ℕ → Result A Reason) (is : List Input) (xs : List A) (known : values_of understand is ≡ Some xs)
    (quiet : AllQuiet is) where
  -- inputs that are understood, of which no call failed, are refused for want of memory alone
  memory_alone : (e : RunFault) → InputsStop understand is e → e ≡ Refused Memory
  memory_alone (Refused TooLong) h = absurd (first_refused understand TooLong is xs h known)
  memory_alone (Refused Memory) h = refl
  memory_alone (Refused (ListReason f)) h = absurd (first_refused understand (ListReason f) is xs h known)
  memory_alone (Refused (JoinReason f)) h = absurd (first_refused understand (JoinReason f) is xs h known)
  memory_alone (Refused (Font f)) h = absurd (first_refused understand (Font f) is xs h known)
  memory_alone (Refused (NoGlyph n)) h = absurd (first_refused understand (NoGlyph n) is xs h known)
  memory_alone (Refused (NoCode code)) h = absurd (first_refused understand (NoCode code) is xs h known)
  memory_alone (Refused (DocumentReason why)) h = absurd (first_refused understand (DocumentReason why) is xs h known)
  memory_alone (Refused (NoFont n)) h = absurd (first_refused understand (NoFont n) is xs h known)
  memory_alone (Refused TooManyTokens) h = absurd (first_refused understand TooManyTokens is xs h known)
  memory_alone (Refused (Lacks g k)) h = absurd (first_refused understand (Lacks g k) is xs h known)
  memory_alone (Refused (Merge n)) h = absurd (first_refused understand (Merge n) is xs h known)
  memory_alone Read h = absurd (first_failed understand is h quiet)
  memory_alone Write h = absurd h

-- so a call that stops as reading stops succeeds where the inputs are known and no call failed
pub succeeds_where_known : {A V : Type 0} (understand : List ℕ → Result A Reason) (is : List Input) (result : Result V RunFault)
    → IfErr result (λ e. InputsStop understand is e) → IsSome (values_of understand is) → AllQuiet is → IsOkUnless result (Refused Memory)
succeeds_where_known {A} {V} understand is (Ok v) stops some quiet = tt
succeeds_where_known {A} {V} understand is (Err e) stops some quiet = by (values_of understand is) refl some
  where
    by : (o : Option (List A)) → values_of understand is ≡ o → IsSome o → e ≡ Refused Memory
    by None k some = absurd (false≢true some)
    by (Some xs) k some = memory_alone understand is xs k quiet e stops
