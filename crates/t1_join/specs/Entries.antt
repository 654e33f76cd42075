-- Entries by what their keys and their values stand for.
use Rattle.std.specs.Prelude.{List, map}

-- an entry by what its key and its value stand for
abbrev pub entry_by : {K V M X : Type 0} → (K → M) → (V → X) → K × V → M × X
entry_by f g e = (f e.0, g e.1)

-- entries by what their keys and their values stand for
abbrev pub entries_by : {K V M X : Type 0} → (K → M) → (V → X) → List (K × V) → List (M × X)
entries_by f g es = map (entry_by f g) es
