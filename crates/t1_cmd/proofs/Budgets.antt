-- Answers within budgets, and those without.
use Rattle.std.proofs.Common.{◌≡◌, ℕ, refl, sym, subst, ◌∙◌, List, [], ◌∷◌, ◌⊎◌, inl, inr, ⊎_elim, Option, None, Some, Result, Ok, Err, IfSome, IfOk, IfErr}
use Rattle.std.specs.{Io.KnownBytes.{Appends}, Global.{Vec}}
use Rattle.t1_bytes.specs.declared.form.Form.{Form}
use Rattle.t1_font.specs.{FontValue.{FontValue}, Normalizing.{normalized_shells}}
use Rattle.t1_subset.specs.{declared.budgets.BudgetFault.{BudgetFault}, declared.fault.RejoinFault.{RejoinFault}, Rejoins.{NotRejoined}}
use Rattle.t1_subset.specs.declared.budgets.BudgetFault.TheVariants as budget
use Rattle.t1_subset.specs.{declared.conflict.Conflict.{Conflict}, Budgets.{subset_tokens, fonts_tokens, merge_tokens, rejoin_tokens, IsEnough, RefusedWithin, OnPlain}}
use Rattle.t1_subset.specs.declared.conflict.Conflict.TheVariants as conflict
use Rattle.t1_subset.specs.declared.fault.RejoinFault.TheVariants as fault
use Rattle.t1_subset.specs.declared.fault.SubsetFault.{SubsetFault}
use Rattle.t1_subset.specs.declared.fault.SubsetFault.TheVariants as subset
use Rattle.t1_cmd.specs.{declared.counting.Counted.{Counted}, declared.faults.Reason.{Reason}}
use Rattle.t1_cmd.specs.declared.faults.Reason.TheVariants.{TooLong, Memory, List as ListReason, Join as JoinReason, Font, NoGlyph, NoCode}
use Rattle.t1_cmd.specs.declared.faults.Reason.TheVariants.{NoFont, Document as DocumentReason, TooManyTokens, Lacks, Merge}
use Rattle.t1_cmd.specs.{declared.faults.RunFault.{RunFault}}
use Rattle.t1_cmd.specs.{declared.faults.RunFault.TheVariants.{Refused, Read, Write}, declared.faults.FilesRefusal.{FilesRefusal}, Count.{inner_of}, Inputs.{Input, IsRefused, FirstWith, values_of}}
use Rattle.t1_cmd.specs.{Answers.{MayRefuse, Prints, if_there, OfOne, OfThere}, Runs.{AppendsPrefix, RefusedTogether, Stops, RunEnds}, Files.{OfFiles, RefusedAt, RefusesFiles}}
use Rattle.t1_cmd.specs.{Mergers.{IsTold, MergesToFile}, Rejoins.{RejoinsTo}, Diffs.{DiffersBy}, Subsets.{names_with, subset_answer, subset_with_codes}}
use Rattle.t1_cmd.specs.{Budgets.{Within, MergesWithin, RejoinsWithin, NotRejoinedWithin, DiffersWithin, CutsWithin, SubsetsWithin}}
use Rattle.t1_cmd.proofs.{Refusals.{refuses, by_answer}, CodeLemmas.{without_codes}}

-- ---- answers

-- where tokens aren't counted, the answer is that without a budget
pub without : (tokens : ℕ) (P : Result (List ℕ) Reason → Type 0) (a : Result (List ℕ) Reason) → Within None tokens P a → P a
without tokens P (Ok text) h = h.0
without tokens P (Err TooLong) h = h.0
without tokens P (Err Memory) h = h.0
without tokens P (Err (ListReason f)) h = h.0
without tokens P (Err (JoinReason f)) h = h.0
without tokens P (Err (Font f)) h = h.0
without tokens P (Err (NoGlyph n)) h = h.0
without tokens P (Err (NoCode code)) h = h.0
without tokens P (Err (DocumentReason why)) h = h.0
without tokens P (Err (NoFont n)) h = h.0
without tokens P (Err TooManyTokens) h = absurd h
without tokens P (Err (Lacks g k)) h = h.0
without tokens P (Err (Merge e)) h = h.0

-- what is told of fonts that don't merge is told where the tokens are left
pub told_enough : (left : Option ℕ) (tokens : ℕ) (e : Conflict) → IsTold e → (e ≡ conflict.Memory) ⊎ IsEnough left tokens → IsEnough left tokens
told_enough left tokens e told (inl h) = absurd (subst IsTold h told)
told_enough left tokens e told (inr h) = h

IsToldOrLack : RejoinFault → Type 0
IsToldOrLack (fault.Lacks glyph index) = Unit {0}
IsToldOrLack (fault.Merge e) = IsTold e

-- the same of fonts that don't rejoin
pub told_rejoined : (left : Option ℕ) (tokens : ℕ) (e : Conflict) → IsTold e → (fault.Merge e ≡ fault.Merge conflict.Memory) ⊎ IsEnough left tokens →
    IsEnough left tokens
unfolding IsToldOrLack
told_rejoined left tokens e told (inl h) = absurd (subst IsToldOrLack h told)
told_rejoined left tokens e told (inr h) = h

-- a lack is told where they are left
pub lack_enough : (left : Option ℕ) (tokens : ℕ) (glyph : Vec ℕ) (index : ℕ) → (fault.Lacks glyph index ≡ fault.Merge conflict.Memory) ⊎ IsEnough left tokens →
    IsEnough left tokens
unfolding IsToldOrLack
lack_enough left tokens glyph index (inl h) = absurd (subst IsToldOrLack h tt)
lack_enough left tokens glyph index (inr h) = h

IsNamed : SubsetFault → Type 0
IsNamed (subset.NoSuchGlyph name) = Unit {0}
IsNamed subset.Memory = ⊥

-- a name that is absent is told where they are left
pub name_enough : (left : Option ℕ) (tokens : ℕ) (name : Vec ℕ) → (subset.NoSuchGlyph name ≡ subset.Memory) ⊎ IsEnough left tokens → IsEnough left tokens
unfolding IsNamed
name_enough left tokens name (inl h) = absurd (subst IsNamed h tt)
name_enough left tokens name (inr h) = h

-- a right refusal for one answer is one for another that follows from it
pub refuses_too : {A : Type 0} (P Q : Result A Reason → Type 0) → ((a : Result A Reason) → P a → Q a) → (r : Reason) → MayRefuse P r → MayRefuse Q r
refuses_too P Q follows r h = by_answer P (MayRefuse Q) r tt (λ s k. refuses Q s (follows (Err s) k)) h

-- a value that isn't there is refused for why it isn't
pub refuses_there : {A : Type 0} (P : A → Result (List ℕ) Reason → Type 0) (o : Result A Reason) (r : Reason) → MayRefuse (λ a. a ≡ o) r →
    MayRefuse (OfThere P o) r
refuses_there P o r h =
    by_answer (λ a. a ≡ o) (MayRefuse (OfThere P o)) r tt (λ s k. refuses (OfThere P o) s (subst (λ x. OfThere P x (Err s)) k refl)) h

module _ {V : Type 0} (view : V → List ℕ) (P : Result (List ℕ) Reason → Type 0) (a : Result (List ℕ) Reason)
    (follows : (b : Result (List ℕ) Reason) → P b → b ≡ a) where
  -- what a call answers where there is one answer
  pub text_is : (r : Result V Reason) → IfOk r (λ v. P (Ok (view v))) → IfOk r (λ v. a ≡ Ok (view v))
  text_is (Ok v) h = sym (follows (Ok (view v)) h)
  text_is (Err e) h = tt

  pub refusal_is : (r : Result V Reason) → IfErr r (MayRefuse P) → IfErr r (MayRefuse (λ b. b ≡ a))
  refusal_is (Ok v) h = tt
  refusal_is (Err e) h = refuses_too P (λ b. b ≡ a) follows e h

-- why fonts don't rejoin, by what the call says that rejoins them
pub not_rejoined : (A : Type 0) (left : Option ℕ) (fs : List FontValue) (x : BudgetFault RejoinFault) →
    OnPlain {A = A} (Err x) (λ r. IfErr r (λ e. NotRejoined fs e)) → RefusedWithin (fault.Merge conflict.Memory) left (rejoin_tokens fs) x →
    NotRejoinedWithin left fs x
not_rejoined A left fs budget.TooManyTokens h k = k
not_rejoined A left fs (budget.Plain e) h k = (h, k)

-- the subset of names
pub cuts_without : (form : Form) (names : List (List ℕ)) (f : FontValue) (a : Result (List ℕ) Reason) → CutsWithin None form names f a →
    a ≡ subset_answer form names f
cuts_without form names f a h =
    without (subset_tokens f names) (λ a. a ≡ subset_answer form names f) a h

-- the subset of names and of the names of codes
pub subsets_without : (form : Form) (names : List (List ℕ)) (numbers : List ℕ) (f : FontValue) (a : Result (List ℕ) Reason) →
    SubsetsWithin None form names numbers f a →
    a ≡ subset_with_codes form names numbers f
subsets_without form names numbers f a h = by (names_with f.encoding names numbers) h
  where
    by : (r : Result (List (List ℕ)) Reason) → OfThere (λ all. CutsWithin None form all f) r a → a ≡ if_there (λ all. subset_answer form all f) r
    by (Ok all) h = cuts_without form all f a h
    by (Err e) h = h

-- the same of a font that is there
pub subsets_of_there : (form : Form) (names : List (List ℕ)) (numbers : List ℕ) (o : Result FontValue Reason) (a : Result (List ℕ) Reason) →
    OfThere (SubsetsWithin None form names numbers) o a → a ≡ if_there (subset_with_codes form names numbers) o
subsets_of_there form names numbers (Ok f) a h = subsets_without form names numbers f a h
subsets_of_there form names numbers (Err r) a h = h

pub names_of_there : (form : Form) (names : List (List ℕ)) (o : Result FontValue Reason) (a : Result (List ℕ) Reason) →
    OfThere (SubsetsWithin None form names []) o a → a ≡ if_there (subset_answer form names) o
names_of_there form names (Ok f) a h = subsets_without form names [] f a h ∙ without_codes form names f
names_of_there form names (Err r) a h = h

-- the same of one font
pub subsets_of_one : (form : Form) (names : List (List ℕ)) (numbers : List ℕ) (fs : List FontValue) (a : Result (List ℕ) Reason) →
    OfOne (SubsetsWithin None form names numbers) fs a → Prints (subset_with_codes form names numbers) fs a
subsets_of_one form names numbers [] a h = h
subsets_of_one form names numbers (f ∷ []) a h = subsets_without form names numbers f a h
subsets_of_one form names numbers (f ∷ g ∷ fs) a h = h

pub names_of_one : (form : Form) (names : List (List ℕ)) (fs : List FontValue) (a : Result (List ℕ) Reason) →
    OfOne (SubsetsWithin None form names []) fs a → Prints (subset_answer form names) fs a
names_of_one form names [] a h = h
names_of_one form names (f ∷ []) a h = subsets_without form names [] f a h ∙ without_codes form names f
names_of_one form names (f ∷ g ∷ fs) a h = h

-- what fonts merge to, and what they rejoin to
pub merges_without : (form : Form) (fs : List FontValue) (a : Result (List ℕ) Reason) → MergesWithin None form fs a → MergesToFile form fs a
merges_without form fs a h = without (merge_tokens fs) (MergesToFile form fs) a h

pub rejoins_without : (form : Form) (fs : List FontValue) (a : Result (List ℕ) Reason) → RejoinsWithin None form fs a → RejoinsTo form fs a
rejoins_without form fs a h = without (rejoin_tokens (normalized_shells fs)) (RejoinsTo form fs) a h

-- the conflicts of fonts
pub differs_without : (fs : List FontValue) (a : Result (List ℕ) Reason) → DiffersWithin None fs a → DiffersBy fs a
differs_without fs a h = without (fonts_tokens fs) (DiffersBy fs) a h

-- ---- files and inputs

module _ {A : Type 0} (input : List ℕ → Result A Reason) (P Q : List A → Result (List ℕ) Reason → Type 0)
    (follows : (xs : List A) (a : Result (List ℕ) Reason) → P xs a → Q xs a) where
  -- an answer of files
  files_too : (files : List (List ℕ)) (a : Result (List ℕ) Reason) → OfFiles input P files a → OfFiles input Q files a
  files_too files a h = (h.0, h.1, follows h.0 a h.2)

  -- a refusal of files
  refusals_too : (files : List (List ℕ)) (place : Option ℕ) (r : Reason) → RefusedAt input P files place r → RefusedAt input Q files place r
  refusals_too files (Some place) r h = h
  refusals_too files None r h = refuses_too (OfFiles input P files) (OfFiles input Q files) (files_too files) r h

  -- what a call over files answers
  pub answer_too : {V : Type 0} (view : V → List ℕ) (files : List (List ℕ)) (r : Result V FilesRefusal) → IfOk r (λ v. OfFiles input P files (Ok (view v))) →
      IfOk r (λ v. OfFiles input Q files (Ok (view v)))
  answer_too view files (Ok v) h = files_too files (Ok (view v)) h
  answer_too view files (Err e) h = tt

  pub refusal_too : {V : Type 0} (files : List (List ℕ)) (r : Result V FilesRefusal) → IfErr r (RefusesFiles input P files) →
      IfErr r (RefusesFiles input Q files)
  refusal_too files (Ok v) h = tt
  refusal_too files (Err e) h = refusals_too files e.place e.reason h

  some_too : {X : Type 0} (R S : X → Type 0) → ((x : X) → R x → S x) → (o : Option X) → IfSome o R → IfSome o S
  some_too R S f None h = tt
  some_too R S f (Some x) h = f x h

  taken_too : (Took : List ℕ → Type 0) (is : List Input) → IfSome (values_of input is) (λ xs. (text : List ℕ) × P xs (Ok text) × Took text) →
      IfSome (values_of input is) (λ xs. (text : List ℕ) × Q xs (Ok text) × Took text)
  taken_too Took is h =
      some_too (λ xs. (text : List ℕ) × P xs (Ok text) × Took text) (λ xs. (text : List ℕ) × Q xs (Ok text) × Took text)
      (λ xs d. (d.0, follows xs (Ok d.0) d.1, d.2)) (values_of input is) h

  stops_so : (is : List Input) (r : Reason) → (FirstWith input (IsRefused input r) is ⊎ RefusedTogether input P r is) →
      FirstWith input (IsRefused input r) is ⊎ RefusedTogether input Q r is
  stops_so is r h =
      ⊎_elim (λ f. inl f)
      (λ t. inr (t.0, some_too (λ xs. P xs (Err r)) (λ xs. Q xs (Err r)) (λ xs d. follows xs (Err r) d) (values_of input is) t.1)) h

  stops_too : (is : List Input) (r : Reason) → Stops input P is (Refused r) → Stops input Q is (Refused r)
  stops_too is TooLong h = stops_so is TooLong h
  stops_too is Memory h = tt
  stops_too is (ListReason f) h = stops_so is (ListReason f) h
  stops_too is (JoinReason f) h = stops_so is (JoinReason f) h
  stops_too is (Font f) h = stops_so is (Font f) h
  stops_too is (NoGlyph n) h = stops_so is (NoGlyph n) h
  stops_too is (NoCode code) h = stops_so is (NoCode code) h
  stops_too is (DocumentReason why) h = stops_so is (DocumentReason why) h
  stops_too is (NoFont n) h = stops_so is (NoFont n) h
  stops_too is TooManyTokens h = stops_so is TooManyTokens h
  stops_too is (Lacks g k) h = stops_so is (Lacks g k) h
  stops_too is (Merge e) h = stops_so is (Merge e) h

  -- the end of an engine
  pub ends_too : {W : Type 0} (contents : W → Option (List ℕ)) (is : List Input) (w v : Counted W) (result : Result (Unit {0}) RunFault) →
      RunEnds input P contents is w v result → RunEnds input Q contents is w v result
  ends_too contents is w v (Ok u) h = (h.0, taken_too (Appends (contents (inner_of w)) (contents (inner_of v))) is h.1)
  ends_too contents is w v (Err (Refused r)) h = (h.0, stops_too is r h.1)
  ends_too contents is w v (Err Read) h = h
  ends_too contents is w v (Err Write) h = ((h.0.0, taken_too (AppendsPrefix (contents (inner_of w)) (contents (inner_of v))) is h.0.1), h.1)
