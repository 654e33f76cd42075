-- Searches: the smallest of a set of keys that passes a test, or all of them.
use Rattle.std.specs.{Prelude.{◌≡◌, ℕ, Bool, true, false, List, [], ◌∷◌, map, filter, Option, Some, None}, declared.cmp.Ordering.{Ordering}, declared.cmp.Ordering.TheVariants.{Less}, List.{find}}
use Rattle.std.specs.FinMap as maps

-- a set of keys, as a map, so that they are listed upwards
abbrev pub KeySet : {K : Type 0} → (K → K → Ordering) → Type 0
KeySet R = maps.FinMap R ℕ

-- the keys of a set, upwards
abbrev pub members : {K : Type 0} {R : K → K → Ordering} → maps.FinMap R ℕ → List K
members s = map (λ e. e.0) (maps.entries s)

-- the smallest key of a set that passes a test
abbrev pub smallest : {K : Type 0} {R : K → K → Ordering} → (K → Bool) → maps.FinMap R ℕ → Option K
smallest p s = find p (members s)

-- the keys of a set that pass a test, upwards
abbrev pub passing : {K : Type 0} {R : K → K → Ordering} → (K → Bool) → maps.FinMap R ℕ → List K
passing p s = filter p (members s)

-- the first element of a list, if there is one
abbrev pub first_of : {X : Type 0} → List X → Option X
first_of [] = None
first_of (x ∷ xs) = Some x

-- a list, or another one if it is empty
abbrev pub or_else : {X : Type 0} → List X → List X → List X
or_else [] ys = ys
or_else (x ∷ xs) ys = x ∷ xs

-- f of the value if there is one, else the alternative
abbrev pub found : {X Y : Type 0} → (X → Y) → Option X → Option Y → Option Y
found f (Some x) e = Some (f x)
found f None e = e

-- the key passes a test, and no lower key does
pub record Passes {K : Type 0} (R : K → K → Ordering) (p : K → Bool) (k : K) : Type 0 where
  pub it : p k ≡ true
  pub none_lower : (q : K) → R q k ≡ Less → p q ≡ false

-- the lowest of all keys that pass a test, or nothing if none does
abbrev pub IsLowest : {K : Type 0} → (K → K → Ordering) → (K → Bool) → Option K → Type 0
IsLowest R p None = (q : _) → p q ≡ false
IsLowest R p (Some k) = Passes R p k
