-- What a call gives, from what the call over files answered.
use Rattle.std.proofs.{Common.{◌≡◌, ◌<◌, ℕ, refl, inl, inr, subst, List, [], ◌∷◌, length, All, slice_set, Option, None, Result, Ok, Err, arith}, lemmas.List.Elements.{All-cons, All-tail}}
use Rattle.std.specs.Prelude.{IfOk, IfErr, MatchResult}
use Rattle.t1_bytes.specs.declared.form.Form.{Form}
use Rattle.t1_cmd.specs.{declared.faults.FilesRefusal.{FilesRefusal}, declared.faults.Reason.{Reason}, declared.faults.Reason.TheVariants.{Memory}, Answers.{MayRefuse}, Files.{OfFiles, RefusesFiles}}
use Rattle.t1_cmd.{specs.{WrittenSubsets.{OfUnion}, Cuts.{OfRejoined}}, proofs.Refusals.{by_answer}}
use Rattle.t1_c.specs.{declared.answers.Answer.{Answer}, Gives.{HasWhole, IsSaid, GivesReason, CallGives, place_in_one, HoldsNothing, FirstGives, GivesFiles, GivesText}}

-- a call over several files gives what that call answered
pub gives_files : {A : Type 0} (understand : List ℕ → Result A Reason) (Answers : List A → Result (List ℕ) Reason → Type 0) (files : List (List ℕ))
    {V : Type 0} (view : V → List ℕ) (r : Result V FilesRefusal) (code : ℕ) (a : Answer)
    → IfOk r (λ v. OfFiles understand Answers files (Ok (view v))) → IfErr r (RefusesFiles understand Answers files)
    → IfOk r (λ v. HasWhole (view v) code a) → IfErr r (λ e. GivesReason e.place e.reason code a) → GivesFiles understand Answers files code a
gives_files understand Answers files view (Ok v) code a is refused whole told = inr (inl (view v, is, whole))
gives_files understand Answers files view (Err e) code a is refused whole (inl nothing) = inl nothing
gives_files understand Answers files view (Err e) code a is refused whole (inr told) = inr (inr (e.place, e.reason, refused, told))

-- a call over one file gives what that call answered
pub gives_answer : (P : Result (List ℕ) Reason → Type 0) {V : Type 0} (view : V → List ℕ) (r : Result V Reason) (code : ℕ) (a : Answer)
    → IfOk r (λ v. P (Ok (view v))) → IfErr r (MayRefuse P)
    → IfOk r (λ v. HasWhole (view v) code a) → IfErr r (λ e. GivesReason (place_in_one e) e code a)
    → CallGives (λ text. P (Ok text)) (λ place e. (place ≡ place_in_one e) × P (Err e)) code a
gives_answer P view (Ok v) code a is refused whole told = inr (inl (view v, is, whole))
gives_answer P view (Err e) code a is refused whole (inl nothing) = inl nothing
gives_answer P view (Err e) code a is refused whole (inr said) =
    inr (inr (
      place_in_one e,
      e,
      (refl, by_answer P (λ s. IsSaid (place_in_one s) s code a → P (Err s)) e (λ never. absurd never) (λ s h k. h) refused said),
      said,
    ))

-- a text or want of memory is given as that
text_given : {V : Type 0} (view : V → List ℕ) (r : Result V FilesRefusal) (code : ℕ) (a : Answer) (text : List ℕ)
    → MatchResult r (λ v. view v ≡ text) (λ e. (e.place ≡ None) × (e.reason ≡ Memory))
    → IfOk r (λ v. HasWhole (view v) code a) → IfErr r (λ e. GivesReason e.place e.reason code a) → GivesText code a text
text_given view (Ok v) code a text is whole told = inr (subst (λ t. HasWhole t code a) is whole)
text_given view (Err e) code a text is whole (inl nothing) = inl nothing
text_given view (Err e) code a text is whole (inr told) = absurd (subst (λ r. IsSaid e.place r code a) is.1 told)

-- of the written subsets of one font the union is given
pub gives_union : (form : Form) (files : List (List ℕ)) {V : Type 0} (view : V → List ℕ) (r : Result V FilesRefusal) (code : ℕ) (a : Answer)
    → OfUnion form files (λ union. MatchResult r (λ v. view v ≡ union) (λ e. (e.place ≡ None) × (e.reason ≡ Memory)))
    → IfOk r (λ v. HasWhole (view v) code a) → IfErr r (λ e. GivesReason e.place e.reason code a) → OfUnion form files (GivesText code a)
gives_union form files view r code a unions whole told = λ f h names more s. text_given view r code a _ (unions f h names more s) whole told

-- of the files of truncated subsets of one font what they rejoin to is given
pub gives_rejoined : (form : Form) (files : List (List ℕ)) {V : Type 0} (view : V → List ℕ) (r : Result V FilesRefusal) (code : ℕ) (a : Answer)
    → OfRejoined form files (λ whole. MatchResult r (λ v. view v ≡ whole) (λ e. (e.place ≡ None) × (e.reason ≡ Memory)))
    → IfOk r (λ v. HasWhole (view v) code a) → IfErr r (λ e. GivesReason e.place e.reason code a) → OfRejoined form files (GivesText code a)
gives_rejoined form files view r code a cuts whole told = λ f h t ts s o get. text_given view r code a _ (cuts f h t ts s o get) whole told

-- where no answer holds anything, a reason that is told in the first is told in it alone
pub first_gives : (place : Option ℕ) (r : Reason) (code : ℕ) (a : Answer) (answers : List Answer)
    → 0 < length answers → All HoldsNothing answers → GivesReason place r code a → FirstGives place r code (slice_set answers 0 a)
first_gives place r code a [] some hold given = absurd (omega arith)
first_gives place r code a (first ∷ others) some hold (inl nothing) =
    inl (nothing.0, All-cons HoldsNothing a others nothing.1 (All-tail HoldsNothing first others hold))
first_gives place r code a (first ∷ others) some hold (inr said) = inr (said, All-tail HoldsNothing first others hold)
