-- What an engine's readers have, and how they are understood one after the other.
use Rattle.std.specs.{Prelude.{ℕ, ◌≡◌, ◌<◌, ◌≤◌, List, [], ◌∷◌, ◌⊎◌, Option, None, Some, Result, Ok, Err, IfSome, IsOk, option_and_then}, Result.{result_ok}}
use Rattle.t1_cmd.specs.{declared.counting.Counted.{Counted}, declared.faults.Reason.{Reason}, Count.{next_count, last_count, inner_of, failed_of}}

-- one reader: its bytes, where these are known, and its failed calls before and after
pub record Input : Type 0 where
  pub known : Option (List ℕ)
  pub before : ℕ
  pub after : ℕ

-- the reader `old`, which is `new` after the engine's calls; `remaining` gives its bytes, where these are known
abbrev pub input_of : {R : Type 0} → (R → Option (List ℕ)) → Counted R → Counted R → Input
input_of remaining old new = record { known = remaining (inner_of old); before = failed_of old; after = failed_of new }

-- the bytes of an input, where these are known
abbrev pub Holds : Input → List ℕ → Type 0
Holds i file = IfSome i.known (λ bytes. file ≡ bytes)

-- a count rose, or stands at its last value
abbrev pub Rose : ℕ → ℕ → Type 0
Rose old new = next_count old ≤ new

-- a count rose by one, or stands at its last value
abbrev pub RoseByOne : ℕ → ℕ → Type 0
RoseByOne old new = new ≡ next_count old

-- calls of the reader failed
abbrev pub HasFailed : Input → Type 0
HasFailed i = Rose i.before i.after

-- no call of the reader failed
abbrev pub IsQuiet : Input → Type 0
IsQuiet i = (i.after ≡ i.before) × (i.before < last_count)

-- no call of any of the readers failed
abbrev pub AllQuiet : List Input → Type 0
AllQuiet [] = Unit {0}
AllQuiet (i ∷ is) = IsQuiet i × AllQuiet is

-- a value before others, where all are there
abbrev pub value_and : {A : Type 0} → Option A → Option (List A) → Option (List A)
value_and None values = None
value_and (Some x) None = None
value_and (Some x) (Some xs) = Some (x ∷ xs)

module _ {A : Type 0} (understand : List ℕ → Result A Reason) where
  -- where its bytes are known, they are understood
  abbrev pub Understood : Input → Type 0
  Understood i = IfSome i.known (λ bytes. IsOk (understand bytes))

  abbrev pub AllUnderstood : List Input → Type 0
  AllUnderstood [] = Unit {0}
  AllUnderstood (i ∷ is) = Understood i × AllUnderstood is

  -- where its bytes are known, they are refused for the reason
  abbrev pub IsRefused : Reason → Input → Type 0
  IsRefused r i = IfSome i.known (λ bytes. understand bytes ≡ Err r)

  -- some input has the fact, and each one before it is understood
  abbrev pub FirstWith : (Input → Type 0) → List Input → Type 0
  FirstWith P [] = ⊥
  FirstWith P (i ∷ is) = P i ⊎ (Understood i × FirstWith P is)

  -- what the input says, where it is known and understood
  abbrev pub value_said : Input → Option A
  value_said i = option_and_then (λ bytes. result_ok (understand bytes)) i.known

  -- what all inputs say, where each is known and understood
  abbrev pub values_of : List Input → Option (List A)
  values_of [] = Some []
  values_of (i ∷ is) = value_and (value_said i) (values_of is)

  -- where they are known, the inputs say these values
  abbrev pub Say : List Input → List A → Type 0
  Say [] [] = Unit {0}
  Say [] (x ∷ xs) = ⊥
  Say (i ∷ is) [] = ⊥
  Say (i ∷ is) (x ∷ xs) = IfSome i.known (λ bytes. understand bytes ≡ Ok x) × Say is xs
