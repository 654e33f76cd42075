-- Finite maps made of others.
use Rattle.std.specs.{Prelude.{List, [], ◌∷◌, ◌++◌, map, Option, Some, None}, declared.cmp.Ordering.{Ordering}, FinMap.{FinMap, entries, insert, from_sorted, from_entries}}

-- the same keys, with f of each key and its value
abbrev pub map_values : {K X Y : Type 0} {R : K → K → Ordering} → (K → X → Y) → FinMap R X → FinMap R Y
map_values f m = from_sorted (map (λ e. (e.0, f e.0 e.1)) (entries m))

-- the entries of both maps, and the first's value where both have a key
abbrev pub merged : {K X : Type 0} {R : K → K → Ordering} → FinMap R X → FinMap R X → FinMap R X
merged m n = from_entries (entries m ++ entries n)

-- the entries put one after another, each in place of what is at its key
abbrev pub put_all_into : {K X : Type 0} {R : K → K → Ordering} → FinMap R X → List (K × X) → FinMap R X
put_all_into m [] = m
put_all_into m (e ∷ es) = put_all_into (insert m e.0 e.1) es

-- an entry of this value, where there is one
abbrev pub entry_of : {K X : Type 0} → K → Option X → List (K × X)
entry_of k None = []
entry_of k (Some x) = (k, x) ∷ []
