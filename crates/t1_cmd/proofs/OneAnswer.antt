-- What files and inputs come to whose fonts have one answer.
use Rattle.std.proofs.Common.{◌≡◌, ℕ, refl, sym, ◌∙◌, subst, List, [], ◌∷◌, ◌⊎◌, inl, inr, ⊎_elim, Option, None, Some, Result, Ok, Err, IfSome}
use Rattle.std.specs.{Prelude.{IfOk, IfErr, MatchResult}, Io.KnownBytes.{Appends}}
use Rattle.t1_font.specs.FontValue.{FontValue}
use Rattle.t1_cmd.specs.{declared.counting.Counted.{Counted}, declared.faults.Reason.{Reason}}
use Rattle.t1_cmd.specs.declared.faults.Reason.TheVariants.{TooLong, Memory, List as ListReason, Join as JoinReason, Font, NoGlyph, NoCode}
use Rattle.t1_cmd.specs.declared.faults.Reason.TheVariants.{NoFont, Document as DocumentReason, TooManyTokens, Lacks, Merge}
use Rattle.t1_cmd.specs.{declared.faults.RunFault.{RunFault}}
use Rattle.t1_cmd.specs.{declared.faults.RunFault.TheVariants.{Refused, Read, Write}, declared.faults.FilesRefusal.{FilesRefusal}, Count.{inner_of}}
use Rattle.t1_cmd.specs.{Inputs.{Input, HasFailed, IsRefused, FirstWith, values_of}, Files.{Values, values_from, OfFiles, RefusedAt, RefusesFiles}}
use Rattle.t1_cmd.specs.{Runs.{AppendsPrefix, RunEnds, Stops, RefusedTogether}, WrittenSubsets.{SomeFailed, Writes}}
use Rattle.t1_cmd.proofs.{Refusals.{by_answer}, RunLemmas.{first_refused}}

module _ (input : List ℕ → Result FontValue Reason) (Answers : List FontValue → Result (List ℕ) Reason → Type 0) (fonts : List FontValue) (one : List ℕ) where
  -- the fonts are answered with this text, and refused for want of memory alone
  pub record OneAnswer : Type 0 where
    pub text : (text : List ℕ) → Answers fonts (Ok text) → text ≡ one
    pub reason : (r : Reason) → Answers fonts (Err r) → r ≡ Memory

  -- a failed call is one of some input
  some_failed : (is : List Input) → FirstWith input HasFailed is → SomeFailed is
  some_failed [] d = d
  some_failed (i ∷ is) d = ⊎_elim (λ x. inl x) (λ x. inr (some_failed is x.1)) d

  module _ (answer : OneAnswer) where
    -- ---- files

    module _ (files : List (List ℕ)) (said : values_from input 0 files ≡ Ok fonts) where
      -- what answers the files answers the fonts
      of_fonts : (r : Result (List ℕ) Reason) → OfFiles input Answers files r → Answers fonts r
      of_fonts r d = subst (λ (fs : List FontValue). Answers fs r) (same d.0 (sym d.1 ∙ said)) d.2
        where
          same : (fs : List FontValue) → ◌≡◌ {A = Values FontValue} (Ok fs) (Ok fonts) → fs ≡ fonts
          same fs e = cc

      -- the files are refused for want of memory alone
      lacks_memory : (e : FilesRefusal) → RefusesFiles input Answers files e → (e.place ≡ None) × (e.reason ≡ Memory)
      lacks_memory e d = by e.place refl d
        where
          never : (place : ℕ) → ◌≡◌ {A = Values FontValue} (Err (place, e.reason)) (Ok fonts) → ⊥
          never place q = cc

          by : (o : Option ℕ) → e.place ≡ o → RefusedAt input Answers files o e.reason → (e.place ≡ None) × (e.reason ≡ Memory)
          by (Some place) is d = absurd (never place (sym d ∙ said))
          by None is d = (is, by_answer (OfFiles input Answers files) (λ r. r ≡ Memory) e.reason refl (λ r k. answer.reason r (of_fonts (Err r) k)) d)

      -- a call that answers the files answers the text, unless a growth was refused
      pub files_answered : {V : Type 0} (view : V → List ℕ) (result : Result V FilesRefusal) → IfOk result (λ v. OfFiles input Answers files (Ok (view v))) →
          IfErr result (RefusesFiles input Answers files) → MatchResult result (λ v. view v ≡ one) (λ e. (e.place ≡ None) × (e.reason ≡ Memory))
      files_answered view (Ok v) d r = answer.text (view v) (of_fonts (Ok (view v)) d)
      files_answered view (Err e) d r = lacks_memory e r

    -- ---- inputs

    module _ (is : List Input) (values : values_of input is ≡ Some fonts) where
      -- what holds of the values of all inputs holds of the fonts
      of_known : (P : List FontValue → Type 0) → IfSome (values_of input is) P → P fonts
      of_known P d = subst (λ (o : Option (List FontValue)). IfSome o P) values d

      -- the inputs are refused, one or together, for want of memory alone
      refused_so : (r : Reason) → (FirstWith input (IsRefused input r) is ⊎ RefusedTogether input Answers r is) → r ≡ Memory
      refused_so r d =
          ⊎_elim
          (λ x. absurd (first_refused input r is fonts x values))
          (λ x. answer.reason r (of_known (λ values. Answers values (Err r)) x.1))
          d

      -- the engine stops for want of memory alone
      only_memory : (r : Reason) → Stops input Answers is (Refused r) → r ≡ Memory
      only_memory TooLong d = refused_so TooLong d
      only_memory Memory d = refl
      only_memory (ListReason x) d = refused_so (ListReason x) d
      only_memory (JoinReason x) d = refused_so (JoinReason x) d
      only_memory (Font x) d = refused_so (Font x) d
      only_memory (NoGlyph x) d = refused_so (NoGlyph x) d
      only_memory (NoCode code) d = refused_so (NoCode code) d
      only_memory (DocumentReason why) d = refused_so (DocumentReason why) d
      only_memory (NoFont x) d = refused_so (NoFont x) d
      only_memory TooManyTokens d = refused_so TooManyTokens d
      only_memory (Lacks g k) d = refused_so (Lacks g k) d
      only_memory (Merge x) d = refused_so (Merge x) d

      -- an engine that ends so writes the text
      pub inputs_answered : {W : Type 0} (contents : W → Option (List ℕ)) (w v : Counted W) (result : Result (Unit {0}) RunFault) →
          RunEnds input Answers contents is w v result → Writes contents one is w v result
      inputs_answered contents w v (Ok u) ends =
          let d =
          of_known (λ values. (text : List ℕ) × Answers values (Ok text) × Appends (contents (inner_of w)) (contents (inner_of v)) text) ends.1 in
          subst (Appends (contents (inner_of w)) (contents (inner_of v))) (answer.text d.0 d.1) d.2
      inputs_answered contents w v (Err (Refused r)) ends = (only_memory r ends.1, ends.0)
      inputs_answered contents w v (Err Read) ends = (some_failed is ends.1, ends.0)
      inputs_answered contents w v (Err Write) ends =
          let d =
          of_known (λ values. (text : List ℕ) × Answers values (Ok text) × AppendsPrefix (contents (inner_of w)) (contents (inner_of v)) text) ends.0.1 in
          (ends.1, subst (AppendsPrefix (contents (inner_of w)) (contents (inner_of v))) (answer.text d.0 d.1) d.2)
