-- What the engine that merges fonts reads and writes.
use Rattle.std.specs.Prelude.{◌≡◌, ℕ, ◌+◌, ◌≤◌, List, [], ◌∷◌, Option, Result, Ok, Err}
use Rattle.t1_bytes.specs.{declared.form.Form.{Form}, Limits.{file_limit}}
use Rattle.t1_font.specs.{FontValue.{FontValue}, Canon.{canon}}
use Rattle.t1_subset.specs.{declared.conflict.Conflict.{Conflict}, Merger.{NotMerged}}
use Rattle.t1_algebra.specs.Merges.{ComesTo}
use Rattle.t1_cmd.specs.{declared.counting.Counted.{Counted}, declared.faults.Reason.{Reason}, declared.faults.Reason.TheVariants.{Memory, Merge}, declared.faults.RunFault.{RunFault}}
use Rattle.t1_cmd.specs.{declared.faults.RunFault.TheVariants.{Refused, Read, Write}, Count.{calls_counted}, Inputs.{Input, HasFailed, IsRefused, FirstWith, input_of}}
use Rattle.t1_subset.specs.declared.conflict.Conflict.TheVariants as conflict

-- ---- readers

-- each reader with what it is after the engine's calls
abbrev pub inputs_of : {R : Type 0} → (R → Option (List ℕ)) → List (Counted R) → List (Counted R) → List Input
inputs_of remaining [] ns = []
inputs_of remaining (o ∷ os) [] = []
inputs_of remaining (o ∷ os) (n ∷ ns) = input_of remaining o n ∷ inputs_of remaining os ns

-- each reader is called at most once more than the file limit
abbrev pub InTurns : {R : Type 0} → List (Counted R) → List (Counted R) → Type 0
InTurns [] ns = Unit {0}
InTurns (o ∷ os) [] = ⊥
InTurns (o ∷ os) (n ∷ ns) = (calls_counted n ≤ calls_counted o + (file_limit + 1)) × InTurns os ns

module _ {A : Type 0} (understand : List ℕ → Result A Reason) where
  -- why reading and understanding the inputs one after the other ends without all values
  abbrev pub InputsStop : List Input → RunFault → Type 0
  InputsStop inputs (Refused Memory) = Unit {0}
  InputsStop inputs (Refused r) = FirstWith understand (IsRefused understand r) inputs
  InputsStop inputs Read = FirstWith understand HasFailed inputs
  InputsStop inputs Write = ⊥

-- ---- what is merged

-- want of memory tells nothing
abbrev pub IsTold : Conflict → Type 0
IsTold conflict.Memory = ⊥
IsTold e = Unit {0}

-- the canonical file of what the fonts come to, merged from left to right, or why they come to none
abbrev pub MergesToFile : Form → List FontValue → Result (List ℕ) Reason → Type 0
MergesToFile form fonts (Ok text) = (j : FontValue) × ComesTo fonts j × (text ≡ canon j form)
MergesToFile form fonts (Err (Merge e)) = NotMerged fonts e × IsTold e
MergesToFile form fonts (Err r) = ⊥
