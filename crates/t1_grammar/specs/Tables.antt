-- Tables: entries up to what closes them, and so many entries and what closes them.
use Rattle.std.specs.Prelude.{◌≡◌, ◌⊎◌, ℕ, zero, suc, ◌<◌, Result, Ok, Err, List, [], ◌∷◌, ◌++◌, length, Option, Some, None}
use Rattle.t1_grammar.specs.Grammar.{Grammar, NotAtFront}

-- entries one after another
abbrev pub Entries : {A : Type 0} → Grammar A → List A → List ℕ → List ℕ → Type 0
Entries entry [] text rest = text ≡ []
Entries entry (a ∷ xs) text rest = (front back : List ℕ) × (text ≡ front ++ back) × entry.Spells a front (back ++ rest) × Entries entry xs back rest

-- entries up to what closes them
abbrev pub IsTable : {A B : Type 0} → Grammar A → Grammar B → List A → B → List ℕ → List ℕ → Type 0
IsTable entry close xs b text rest = (front back : List ℕ) × (text ≡ front ++ back) × Entries entry xs front (back ++ rest) × close.Spells b back rest

-- entries and their close stand at the front of bytes, before rest
abbrev pub TableAt : {A B : Type 0} → Grammar A → Grammar B → List A → B → List ℕ → List ℕ → Type 0
TableAt entry close xs b bytes rest = (text : List ℕ) × (bytes ≡ text ++ rest) × IsTable entry close xs b text rest

-- left is the first place where neither an entry nor the close stands
pub record BreaksOff {A B : Type 0} (entry : Grammar A) (close : Grammar B) (bytes left : List ℕ) : Type 0 where
  pub xs : List A
  pub front : List ℕ
  pub parts : bytes ≡ front ++ left
  pub entries : Entries entry xs front left
  pub no_entry : NotAtFront entry left
  pub no_close : NotAtFront close left

-- so many entries, and what closes them
abbrev pub IsCounted : {A B : Type 0} → Grammar A → Grammar B → ℕ → List A → B → List ℕ → List ℕ → Type 0
IsCounted entry close n xs b text rest = (length xs ≡ n) × IsTable entry close xs b text rest

-- so many entries and their close stand at the front of bytes, before rest
abbrev pub CountedAt : {A B : Type 0} → Grammar A → Grammar B → ℕ → List A → B → List ℕ → List ℕ → Type 0
CountedAt entry close n xs b bytes rest = (text : List ℕ) × (bytes ≡ text ++ rest) × IsCounted entry close n xs b text rest

-- an entry of n is missing, or behind the last of them what closes them
abbrev pub NextIsMissing : {A B : Type 0} → Grammar A → Grammar B → ℕ → ℕ → List ℕ → Type 0
NextIsMissing entry close n so_far left = ((so_far < n) × NotAtFront entry left) ⊎ ((so_far ≡ n) × NotAtFront close left)

-- left is the place where the first of n entries and their close is missing
pub record CountBreaksOff {A B : Type 0} (entry : Grammar A) (close : Grammar B) (n : ℕ) (bytes left : List ℕ) : Type 0 where
  pub xs : List A
  pub front : List ℕ
  pub parts : bytes ≡ front ++ left
  pub entries : Entries entry xs front left
  pub missing : NextIsMissing entry close n (length xs) left

-- the entries, what closes them and what stands after it; or what is left where they break off
abbrev pub Table : Type 0 → Type 0 → Type 0
Table A B = Result (List A × B × List ℕ) (List ℕ)

-- a table with these entries before it
abbrev pub with_front : {A B : Type 0} → List A → Table A B → Table A B
with_front xs (Ok x) = Ok (xs ++ x.0, x.1, x.2)
with_front xs (Err left) = Err left

-- the close where it can be read, else an entry and the other ones, else a break
abbrev pub table_step : {A B : Type 0} → Option (B × List ℕ) → Option (A × List ℕ) → (List ℕ → Table A B) → List ℕ → Table A B
table_step (Some b) entry others bytes = Ok ([], b.0, b.1)
table_step None (Some a) others bytes = with_front (a.0 ∷ []) (others a.1)
table_step None None others bytes = Err bytes

-- a table of fewer than n entries
unfoldable pub table_within : {A B : Type 0} → Grammar A → Grammar B → ℕ → List ℕ → Table A B
table_within entry close zero bytes = Err bytes
table_within entry close (suc n) bytes = table_step (close.read bytes) (entry.read bytes) (table_within entry close n) bytes

-- n entries and their close at the front of bytes
unfoldable pub counted_at : {A B : Type 0} → Grammar A → Grammar B → ℕ → List ℕ → Table A B
counted_at entry close zero bytes = table_step (close.read bytes) None Err bytes
counted_at entry close (suc n) bytes = table_step None (entry.read bytes) (counted_at entry close n) bytes

-- the table at the front of bytes: each entry has bytes, so there are no more entries than bytes
abbrev pub table_at : {A B : Type 0} → Grammar A → Grammar B → List ℕ → Table A B
table_at entry close bytes = table_within entry close (suc (length bytes)) bytes
