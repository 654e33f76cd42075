-- What lists of files come to.
use Rattle.std.specs.Prelude.{◌≡◌, ℕ, ◌+◌, List, [], ◌∷◌, Option, None, Some, Result, Ok, Err}
use Rattle.t1_cmd.specs.{declared.faults.Reason.{Reason}, declared.faults.Reason.TheVariants.{Memory}, declared.faults.FilesRefusal.{FilesRefusal}, Answers.{MayRefuse}}

-- what files say, or the place of a file that is refused, and why
abbrev pub Values : Type 0 → Type 0
Values A = Result (List A) (ℕ × Reason)

-- what a file says, before what the files behind it say
abbrev pub value_before : {A : Type 0} → ℕ → Result A Reason → Values A → Values A
value_before place (Err r) rest = Err (place, r)
value_before place (Ok x) (Ok xs) = Ok (x ∷ xs)
value_before place (Ok x) (Err e) = Err e

-- the refusal of the file at this place for this reason; want of memory has no place
abbrev pub IsRefusalAt : ℕ → Reason → FilesRefusal → Type 0
IsRefusalAt place Memory refusal = (refusal.place ≡ None) × (refusal.reason ≡ Memory)
IsRefusalAt place r refusal = (refusal.place ≡ Some place) × (refusal.reason ≡ r)

module _ {A : Type 0} (understand : List ℕ → Result A Reason) where
  -- what files say, or the place of the first that is refused, and why, where the places are counted from this one
  abbrev pub values_from : ℕ → List (List ℕ) → Values A
  values_from place [] = Ok []
  values_from place (file ∷ files) = value_before place (understand file) (values_from (place + 1) files)

  -- reading files ends without all that they say: the first that is refused has its place; or, without a place, a growth was refused
  abbrev pub IsUnread : List (List ℕ) → Option ℕ → Reason → Type 0
  IsUnread files (Some place) reason = values_from 0 files ≡ Err (place, reason)
  IsUnread files None reason = reason ≡ Memory

  -- all files say something, and that has this fact
  abbrev pub SaidBy : (List A → Type 0) → List (List ℕ) → Type 0
  SaidBy Has files = (values : List A) × (values_from 0 files ≡ Ok values) × Has values

  module _ (Answers : List A → Result (List ℕ) Reason → Type 0) (files : List (List ℕ)) where
    -- all files say something, and this answers it
    abbrev pub OfFiles : Result (List ℕ) Reason → Type 0
    OfFiles answer = (values : List A) × (values_from 0 files ≡ Ok values) × Answers values answer

    -- the first file that is refused stands at this place, from 0, and is refused for this reason; or, if there is no
    -- place, all are refused together, or for want of memory
    abbrev pub RefusedAt : Option ℕ → Reason → Type 0
    RefusedAt (Some place) reason = values_from 0 files ≡ Err (place, reason)
    RefusedAt None reason = MayRefuse OfFiles reason

    -- files may be refused so
    abbrev pub RefusesFiles : FilesRefusal → Type 0
    RefusesFiles refusal = RefusedAt refusal.place refusal.reason
