-- Lists of entries in the order of a file, and the maps that they make: of a repeated key the last entry stands.
use Rattle.std.specs.Prelude.{◌≡◌, ◌⊎◌, ◌+◌, ◌<◌, ℕ, not, Bool, false, List, [], ◌∷◌, length, filter, slice_index_or, Option, Some, None, if◌then◌else◌}
use Rattle.std.specs.{Str.{bytes_eq}, Ordering.{is_eq}, declared.cmp.Ordering.{Ordering}, declared.cmp.Ordering.TheVariants.{Less}}
use Rattle.std.specs.List.Sorted.{IsPermutation, IsSortedByKey, IsStableByKey}
use Rattle.t1_grammar.specs.Grammar.{choice}
use Rattle.t1_text.specs.Names.{notdef}
use Rattle.std.specs.FinMap as maps

module _ {K : Type 0} (R : K → K → Ordering) where
  -- entries put one after another among those that stand in the order of their keys
  abbrev pub put_all : List (K × List ℕ) → List (K × List ℕ) → List (K × List ℕ)
  put_all [] into = into
  put_all (e ∷ es) into = put_all es (maps.put R e.0 e.1 into)

  -- in the order of the keys, each key with its last value
  abbrev pub last_entries : List (K × List ℕ) → List (K × List ℕ)
  last_entries es = put_all es []

  -- the value of the last entry with this key
  abbrev pub last_value : {X : Type 0} → K → List (K × X) → Option X
  last_value key [] = None
  last_value key (e ∷ es) = choice (last_value key es) (if is_eq (R key e.0) then Some e.1 else None)

-- ---- each key once

module _ {K V : Type 0} (R : K → K → Ordering) where
  -- whether the next entry has the key of this one
  abbrev pub comes_again : K → List (K × V) → Bool
  comes_again key [] = false
  comes_again key (e ∷ es) = is_eq (R e.0 key)

  -- the first entry, unless its key comes again
  abbrev pub run_end : List (K × V) → Option (K × V)
  run_end [] = None
  run_end (e ∷ es) = if comes_again e.0 es then None else Some e

  -- of entries with one key that stand together the last
  abbrev pub run_ends : List (K × V) → List (K × V)
  run_ends [] = []
  run_ends (e ∷ es) = if comes_again e.0 es then run_ends es else e ∷ run_ends es

  -- each key is below the next
  abbrev pub KeysRise : List (K × V) → Type 0
  KeysRise es = (k : ℕ) (d : K × V) → k + 1 < length es → R (slice_index_or es k d).0 (slice_index_or es (k + 1) d).0 ≡ Less

  -- in the order of the keys, of each key the last entry
  pub record AreLast (entries last : List (K × V)) : Type 0 where
    pub sorted : List (K × V)
    pub same : IsPermutation entries sorted
    pub rise : IsSortedByKey (λ e. e.0) R sorted
    pub stable : IsStableByKey (λ e. e.0) R entries sorted
    pub last_is : last ≡ run_ends sorted

  -- the entries as they are, or of each key the last
  abbrev pub AreSettled : List (K × V) → List (K × V) → Type 0
  AreSettled old new = (new ≡ old) ⊎ AreLast old new

-- the map of entries
abbrev pub map_of : {K : Type 0} {R : K → K → Ordering} → List (K × List ℕ) → maps.FinMap R (List ℕ)
map_of {R = R} es = maps.from_sorted (last_entries R es)

-- ---- the names of codes: `.notdef` means none

-- a put whose name is not `.notdef`
abbrev pub has_name : {K : Type 0} → K × List ℕ → Bool
has_name e = not (bytes_eq notdef e.1)

-- the entries of the last puts that name a glyph
abbrev pub last_names : {K : Type 0} → (K → K → Ordering) → List (K × List ℕ) → List (K × List ℕ)
last_names R es = filter has_name (last_entries R es)

-- the names of the codes that are put
abbrev pub names_of : {K : Type 0} {R : K → K → Ordering} → List (K × List ℕ) → maps.FinMap R (List ℕ)
names_of {R = R} es = maps.from_sorted (last_names R es)

-- a name, but none where it is `.notdef`
abbrev pub unless_notdef : Option (List ℕ) → Option (List ℕ)
unless_notdef None = None
unless_notdef (Some n) = if not (bytes_eq notdef n) then Some n else None
