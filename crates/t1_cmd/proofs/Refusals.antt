-- What refuses a value, a file, or the input that has the file.
use Rattle.std.proofs.Common.{◌≡◌, ℕ, List, subst, sym, Option, Some, None, Result, Err, IfSome}
use Rattle.t1_cmd.specs.{declared.faults.Reason.{Reason}}
use Rattle.t1_cmd.specs.declared.faults.Reason.TheVariants.{TooLong, Memory, List as ListReason, Join as JoinReason, Font, NoGlyph, NoCode}
use Rattle.t1_cmd.specs.declared.faults.Reason.TheVariants.{NoFont, Document as DocumentReason, TooManyTokens, Lacks, Merge}
use Rattle.t1_cmd.specs.{declared.faults.RunFault.TheVariants.{Refused}, Inputs.{Input, Holds, Say}, Answers.{MayRefuse}, Runs.{InputStops, Stops}}
use Rattle.t1_cmd.proofs.RunLemmas.{stops_together}

-- an answer is a right refusal
pub refuses : {A : Type 0} (P : Result A Reason → Type 0) (r : Reason) → P (Err r) → MayRefuse P r
refuses P TooLong h = h
refuses P Memory h = tt
refuses P (ListReason f) h = h
refuses P (JoinReason f) h = h
refuses P (Font f) h = h
refuses P (NoGlyph n) h = h
refuses P (NoCode code) h = h
refuses P (DocumentReason why) h = h
refuses P (NoFont n) h = h
refuses P TooManyTokens h = h
refuses P (Lacks g k) h = h
refuses P (Merge e) h = h

-- what holds of each answer that is a refusal, and of want of memory, holds of a right refusal
pub by_answer : {A : Type 0} (P : Result A Reason → Type 0) (Q : Reason → Type 0) (r : Reason)
    → Q Memory → ((s : Reason) → P (Err s) → Q s) → MayRefuse P r → Q r
by_answer P Q TooLong m f h = f TooLong h
by_answer P Q Memory m f h = m
by_answer P Q (ListReason e) m f h = f (ListReason e) h
by_answer P Q (JoinReason e) m f h = f (JoinReason e) h
by_answer P Q (Font e) m f h = f (Font e) h
by_answer P Q (NoGlyph n) m f h = f (NoGlyph n) h
by_answer P Q (NoCode code) m f h = f (NoCode code) h
by_answer P Q (DocumentReason why) m f h = f (DocumentReason why) h
by_answer P Q (NoFont n) m f h = f (NoFont n) h
by_answer P Q TooManyTokens m f h = f TooManyTokens h
by_answer P Q (Lacks g k) m f h = f (Lacks g k) h
by_answer P Q (Merge e) m f h = f (Merge e) h

module _ {A : Type 0} (understand : List ℕ → Result A Reason) where
  -- what a file says, its input says
  pub says_so : (i : Input) (file : List ℕ) (r : Result A Reason)
      → Holds i file → r ≡ understand file → IfSome i.known (λ bytes. understand bytes ≡ r)
  says_so i file r has h = by i.known has
    where
      by : (o : Option (List ℕ)) → IfSome o (λ bytes. file ≡ bytes) → IfSome o (λ bytes. understand bytes ≡ r)
      by None k = tt
      by (Some bytes) k = subst (λ (t : List ℕ). understand t ≡ r) k (sym h)

  -- an input that is refused stops
  pub input_stops : (i : Input) (r : Reason) → IfSome i.known (λ bytes. understand bytes ≡ Err r) → InputStops understand i (Refused r)
  input_stops i TooLong h = h
  input_stops i Memory h = tt
  input_stops i (ListReason f) h = h
  input_stops i (JoinReason f) h = h
  input_stops i (Font f) h = h
  input_stops i (NoGlyph n) h = h
  input_stops i (NoCode code) h = h
  input_stops i (DocumentReason why) h = h
  input_stops i (NoFont n) h = h
  input_stops i TooManyTokens h = h
  input_stops i (Lacks g k) h = h
  input_stops i (Merge e) h = h

  -- a file that is refused stops its input
  pub file_stops : (i : Input) (file : List ℕ) (r : Reason)
      → Holds i file → MayRefuse (λ a. a ≡ understand file) r → InputStops understand i (Refused r)
  file_stops i file r has =
      by_answer (λ a. a ≡ understand file) (λ s. InputStops understand i (Refused s)) r tt
      (λ s h. input_stops i s (says_so i file (Err s) has h))

  -- what refuses the values that inputs say stops the engine
  pub answer_stops : (Answers : List A → Result (List ℕ) Reason → Type 0) (is : List Input) (xs : List A) (r : Reason)
      → Say understand is xs → MayRefuse (Answers xs) r → Stops understand Answers is (Refused r)
  answer_stops Answers is xs r h =
      by_answer (Answers xs) (λ s. Stops understand Answers is (Refused s)) r tt (λ s a. stops_together understand Answers is xs s h a)
