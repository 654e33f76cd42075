-- What a function returned, against what its definition gives.
use Rattle.std.specs.Prelude.{◌≡◌, ℕ, List, Result, Ok, Err}
use Rattle.t1_bytes.specs.{FlatText.{IsBad}, declared.fault.BytesFault.{BytesFault}, declared.fault.BytesFault.TheVariants.{BadSegment, Memory, NoEexec, ShortCipher}}

-- only a bad segment has a place, and want of memory may come in place of each answer
abbrev pub Fails : {Y : Type 0} → BytesFault → Result Y ℕ → Type 0
Fails (BadSegment at) read = read ≡ Err at
Fails Memory read = Unit {0}
Fails NoEexec read = ⊥
Fails ShortCipher read = ⊥

-- what was returned, seen by view, is what reading gives, unless memory ran out
abbrev pub Gives : {X Y : Type 0} → (X → Y) → Result X BytesFault → Result Y ℕ → Type 0
Gives view (Ok x) read = read ≡ Ok (view x)
Gives view (Err e) read = Fails e read

-- which refusals of flatten are right; want of memory always is
abbrev pub Refuses : List ℕ → BytesFault → Type 0
Refuses file (BadSegment at) = IsBad file at
Refuses file Memory = Unit {0}
Refuses file NoEexec = ⊥
Refuses file ShortCipher = ⊥

-- a fault is the answer; want of memory may come in place of each answer
abbrev pub Refused : {Y : Type 0} → BytesFault → Result Y BytesFault → Type 0
Refused Memory answer = Unit {0}
Refused NoEexec answer = answer ≡ Err NoEexec
Refused ShortCipher answer = answer ≡ Err ShortCipher
Refused (BadSegment at) answer = answer ≡ Err (BadSegment at)

-- what was returned, seen by view, is the answer, unless memory ran out
abbrev pub Answers : {X Y : Type 0} → (X → Y) → Result X BytesFault → Result Y BytesFault → Type 0
Answers view (Ok x) answer = answer ≡ Ok (view x)
Answers view (Err e) answer = Refused e answer

-- a fault that is right by a rule of the text, or want of memory
abbrev pub OrMemory : (BytesFault → Type 0) → BytesFault → Type 0
OrMemory Right Memory = Unit {0}
OrMemory Right NoEexec = Right NoEexec
OrMemory Right ShortCipher = Right ShortCipher
OrMemory Right (BadSegment at) = Right (BadSegment at)
