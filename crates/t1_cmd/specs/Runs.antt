-- How an engine ends.
use Rattle.std.specs.{Prelude.{ℕ, ◌≡◌, ◌<◌, ◌≤◌, length, take, List, ◌⊎◌, Option, Result, Ok, Err, IfSome, IsOkUnless}, Io.KnownBytes.{Keeps, Appends}}
use Rattle.t1_cmd.specs.{declared.counting.Counted.{Counted}, declared.faults.Reason.{Reason}, declared.faults.Reason.TheVariants.{TooLong, Memory}, declared.faults.RunFault.{RunFault}}
use Rattle.t1_cmd.specs.{declared.faults.RunFault.TheVariants.{Refused, Read, Write}, Count.{inner_of, failed_of, last_count}}
use Rattle.t1_cmd.specs.Inputs.{Input, Rose, RoseByOne, HasFailed, AllQuiet, AllUnderstood, IsRefused, FirstWith, values_of}

-- the exit status
abbrev pub status_of : RunFault → ℕ
status_of (Refused r) = 1
status_of Read = 3
status_of Write = 3

-- what `read_all` may answer in place of the bytes, where the reader has these bytes
abbrev pub ReadRefusal : ℕ → Option (List ℕ) → ℕ → ℕ → RunFault → Type 0
ReadRefusal limit known old new (Refused TooLong) = IfSome known (λ xs. limit < length xs)
ReadRefusal limit known old new (Refused Memory) = Unit {0}
ReadRefusal limit known old new (Refused r) = ⊥
ReadRefusal limit known old new Read = Rose old new
ReadRefusal limit known old new Write = ⊥

-- the writer took a prefix of the text
abbrev pub AppendsPrefix : Option (List ℕ) → Option (List ℕ) → List ℕ → Type 0
AppendsPrefix old new text = (k : ℕ) × (k ≤ length text) × Appends old new (take k text)

-- what `write_fault` may answer in place of writing this line
abbrev pub WriteRefusal : List ℕ → Option (List ℕ) → Option (List ℕ) → ℕ → ℕ → RunFault → Type 0
WriteRefusal line before after old new (Refused Memory) = Keeps before after
WriteRefusal line before after old new (Refused r) = ⊥
WriteRefusal line before after old new Read = ⊥
WriteRefusal line before after old new Write = AppendsPrefix before after line × RoseByOne old new

-- how an engine ended that answers a value
abbrev pub ended : {A : Type 0} → Result A RunFault → Result (Unit {0}) RunFault
ended (Ok x) = Ok tt
ended (Err e) = Err e

module _ {A : Type 0} (understand : List ℕ → Result A Reason) where
  -- why reading and understanding one input ends without a value
  abbrev pub InputStops : Input → RunFault → Type 0
  InputStops i (Refused Memory) = Unit {0}
  InputStops i (Refused r) = IsRefused understand r i
  InputStops i Read = HasFailed i
  InputStops i Write = ⊥

  -- how reading and understanding one input ends, where `view` is what callers see of the value
  abbrev pub InputEnds : {V : Type 0} → (V → A) → Input → Result V RunFault → Type 0
  InputEnds view i (Ok v) = IfSome i.known (λ bytes. understand bytes ≡ Ok (view v))
  InputEnds view i (Err e) = InputStops i e

  module _ (Answers : List A → Result (List ℕ) Reason → Type 0) where
    -- all inputs are understood, and refused together
    abbrev pub RefusedTogether : Reason → List Input → Type 0
    RefusedTogether r inputs = AllUnderstood understand inputs × IfSome (values_of understand inputs) (λ values. Answers values (Err r))

    -- why an engine ends with nothing written: of several inputs the first that stops is answered
    abbrev pub Stops : List Input → RunFault → Type 0
    Stops inputs (Refused Memory) = Unit {0}
    Stops inputs (Refused r) = FirstWith understand (IsRefused understand r) inputs ⊎ RefusedTogether r inputs
    Stops inputs Read = FirstWith understand HasFailed inputs
    Stops inputs Write = ⊥

    -- all inputs are understood, and the text that answers them was taken
    abbrev pub Takes : (List ℕ → Type 0) → List Input → Type 0
    Takes Took inputs = AllUnderstood understand inputs
        × IfSome (values_of understand inputs) (λ values. (text : List ℕ) × Answers values (Ok text) × Took text)

    -- how an engine ends: the whole answer is written; a prefix of it, where the writer failed, once; else nothing
    abbrev pub RunEnds : {W : Type 0} → (W → Option (List ℕ)) → List Input → Counted W → Counted W → Result (Unit {0}) RunFault → Type 0
    RunEnds contents inputs w v (Ok u) = Takes (Appends (contents (inner_of w)) (contents (inner_of v))) inputs
    RunEnds contents inputs w v (Err Write) =
        Takes (AppendsPrefix (contents (inner_of w)) (contents (inner_of v))) inputs × RoseByOne (failed_of w) (failed_of v)
    RunEnds contents inputs w v (Err e) = (v ≡ w) × Stops inputs e

    -- where the inputs have a text for an answer and no call failed, it is written, unless memory is refused
    abbrev pub Succeeds : {W : Type 0} → List Input → Counted W → Counted W → Result (Unit {0}) RunFault → Type 0
    Succeeds inputs w v result = IfSome (values_of understand inputs) (λ values.
        (text : List ℕ) → Answers values (Ok text) → AllQuiet inputs → failed_of v ≡ failed_of w → failed_of w < last_count
        → IsOkUnless result (Refused Memory))
