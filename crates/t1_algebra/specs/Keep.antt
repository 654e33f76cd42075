-- The names and Subrs that a set of names needs, and the subset.
use Rattle.std.specs.{Prelude.{◌≡◌, ℕ, Bool, true, not, ◌&&◌, ◌||◌, List, [], ◌∷◌, ◌++◌, map, filter, flat_map}, List.{list_all}, Option.{unwrap_or}}
use Rattle.t1_font.specs.{FontValue.{FontValue, SparseArray, notdef}, Cut.{restrict}}
use Rattle.t1_algebra.specs.Interpreter.{Interpreter, Names, Numbers}
use Rattle.std.specs.FinMap as maps
use Rattle.std.specs.FinSet as sets

-- each set of some of the names
abbrev pub sets_of : List (List ℕ) → List Names
sets_of [] = sets.empty ∷ []
sets_of (n ∷ ns) = sets_of ns ++ map (λ s. sets.insert s n) (sets_of ns)

module _ (f : FontValue) where
  -- the charstring of a name, empty if the font lacks it
  abbrev pub charstring : List ℕ → List ℕ
  charstring n = unwrap_or (maps.get f.glyphs n) []

  -- the font has a glyph of this name
  abbrev pub has : List ℕ → Bool
  has n = maps.contains_key f.glyphs n

-- a set of names that the font has
abbrev pub IsOf : FontValue → Names → Type 0
IsOf f a = (n : List ℕ) → sets.contains a n ≡ true → has f n ≡ true

-- the components that a charstring names: of an accented glyph, its base and its accent
abbrev pub components : {O : Type 0} → Interpreter O → SparseArray → List ℕ → List (List ℕ)
components m s c = m.names (m.direct s c)

module _ {O : Type 0} (m : Interpreter O) (f : FontValue) where
  -- the components of a glyph that the font has
  abbrev pub components_here : List ℕ → Names
  components_here n = sets.from_list (filter (has f) (components m f.subrs (charstring f n)))

  -- a set of names has those asked for, `.notdef`, and the components of each of its names
  abbrev pub is_closed : Names → Names → Bool
  is_closed asked s = sets.contains s notdef && (sets.is_subset asked s && list_all (λ n. sets.is_subset (components_here n) s) (sets.items s))

  -- a name is in each closed set of the font's names
  abbrev pub is_needed : Names → List ℕ → Bool
  is_needed asked n = list_all (λ s. not (is_closed asked s) || sets.contains s n) (sets_of (maps.keys f.glyphs))

  -- the intersection of all closed sets of the font's names; nothing computes it
  abbrev pub keep : Names → Names
  keep asked = sets.from_list (filter (is_needed asked) (maps.keys f.glyphs))

  -- the indices 0 to 3, and those that the glyphs of these names execute
  abbrev pub called_by : Names → Numbers
  called_by names = sets.from_list (0 ∷ 1 ∷ 2 ∷ 3 ∷ flat_map (λ n. sets.items (m.exec f.subrs (charstring f n))) (sets.items names))

  -- the indices 0 to 3, and those that the kept glyphs execute
  abbrev pub kept : Names → Numbers
  kept asked = called_by (keep asked)

  -- the font cut to the names that are kept, with a stub in place of each Subr that is not kept
  abbrev pub subset : Names → FontValue
  subset asked = restrict (sets.contains (keep asked)) (sets.contains (kept asked)) f

  -- `is_closed` as a relation
  pub record Closed (a s : Names) : Type 0 where
    pub asked : (n : List ℕ) → sets.contains a n ≡ true → sets.contains s n ≡ true
    pub notdef : sets.contains s notdef ≡ true
    pub components : (n p : List ℕ) → sets.contains s n ≡ true → sets.contains (components_here n) p ≡ true → sets.contains s p ≡ true
