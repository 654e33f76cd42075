-- Answers of one input.
use Rattle.std.specs.Prelude.{ℕ, ◌≡◌, List, [], ◌∷◌, length, Result, Ok, Err, nat_lt, if◌then◌else◌}
use Rattle.t1_cmd.specs.{declared.faults.Reason.{Reason}, declared.faults.Reason.TheVariants.{TooLong, Memory}}
use Rattle.t1_bytes.specs.Limits.{file_limit}

-- an answer whose fault is told as a reason
abbrev pub with_reason : {A F : Type 0} → (F → Reason) → Result A F → Result A Reason
with_reason reason (Ok x) = Ok x
with_reason reason (Err f) = Err (reason f)

-- what an input says, within the file limit
abbrev pub within_limit : {A : Type 0} → (List ℕ → Result A Reason) → List ℕ → Result A Reason
within_limit understand bytes = if nat_lt file_limit (length bytes) then Err TooLong else understand bytes

-- what is made of a value that is there, or why it is not there
abbrev pub if_there : {A B : Type 0} → (A → Result B Reason) → Result A Reason → Result B Reason
if_there make (Ok x) = make x
if_there make (Err r) = Err r

-- a call may refuse for this reason where these are its answers: that is one of them, or it is want of memory
abbrev pub MayRefuse : {A : Type 0} → (Result A Reason → Type 0) → Reason → Type 0
MayRefuse Answer Memory = Unit {0}
MayRefuse Answer r = Answer (Err r)

-- one value is answered with what `text` makes of it
abbrev pub Prints : {A : Type 0} → (A → Result (List ℕ) Reason) → List A → Result (List ℕ) Reason → Type 0
Prints text (x ∷ []) answer = answer ≡ text x
Prints text others answer = ⊥

-- one value has this answer
abbrev pub OfOne : {A : Type 0} → (A → Result (List ℕ) Reason → Type 0) → List A → Result (List ℕ) Reason → Type 0
OfOne Answers (x ∷ []) = Answers x
OfOne Answers others = λ answer. ⊥

-- a value that is there has this answer; else it is why there is none
abbrev pub OfThere : {A : Type 0} → (A → Result (List ℕ) Reason → Type 0) → Result A Reason → Result (List ℕ) Reason → Type 0
OfThere Answers (Ok x) = Answers x
OfThere Answers (Err r) = λ answer. answer ≡ Err r
