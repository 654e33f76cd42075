-- What is answered where fonts are filled.
use Rattle.std.specs.{Prelude.{◌≡◌, ◌⊎◌, ◌≤◌, ◌<◌, ℕ, nat_lt, Bool, true, false, List, [], ◌∷◌, Some}, List.{AllByRecursion, list_all}, FinMap.{get, contains_key, entries, retain_keys}}
use Rattle.t1_font.specs.{declared.parts.PartsFault.{PartsFault}, declared.parts.PartsFault.TheVariants.{Limit, Memory}, FontValue.{FontValue, SparseArray, declared_count, weight, weight_limit}}
use Rattle.t1_font.specs.{Cut.{stub}, Maps.{merged}, Normalizing.{filled_all}}

-- each of these fonts is within the weight limit
abbrev pub AreLight : List FontValue → Type 0
AreLight fs = AllByRecursion (λ f. weight f ≤ weight_limit) fs

-- one of these fonts is over the weight limit
abbrev pub AnyHeavy : List FontValue → Type 0
AnyHeavy [] = ⊥
AnyHeavy (f ∷ fs) = (weight_limit < weight f) ⊎ AnyHeavy fs

-- the fonts, filled, of which each is within the weight limit
abbrev pub Fills : List FontValue → List FontValue → Type 0
Fills fs all = (all ≡ filled_all fs) × AreLight all

-- one of the fonts, filled, weighs too much; or a growth was refused
abbrev pub FillRefuses : List FontValue → PartsFault → Type 0
FillRefuses fs Limit = AnyHeavy (filled_all fs)
FillRefuses fs Memory = Unit {0}

-- ---- indices

-- a map has each of these numbers
abbrev pub has_each : SparseArray → List ℕ → Bool
has_each m numbers = list_all (contains_key m) numbers

-- each of these indices is below a count
abbrev pub are_below : ℕ → List ℕ → Bool
are_below n indices = list_all (λ i. nat_lt i n) indices

-- ---- one font, by a table of stubs

-- whether a list of entries is empty
abbrev pub has_none : List (ℕ × List ℕ) → Bool
has_none [] = true
has_none (e ∷ es) = false

-- Subrs and these, where there are Subrs
abbrev pub with_these : SparseArray → SparseArray → List (ℕ × List ℕ) → SparseArray
with_these stubs m [] = m
with_these stubs m (e ∷ es) = merged m stubs

-- each entry is a stub
abbrev pub AreStubs : SparseArray → Type 0
AreStubs stubs = (i : ℕ) (c : List ℕ) → get stubs i ≡ Some c → c ≡ stub

-- a font with these Subrs
abbrev pub with_subrs : FontValue → SparseArray → FontValue
with_subrs f m = record { shell = f.shell; encoding = f.encoding; subrs = m; glyphs = f.glyphs }

-- a font with those of the stubs that are below its declared count
abbrev pub filled_by : SparseArray → FontValue → FontValue
filled_by stubs f = record {
  shell = f.shell;
  encoding = f.encoding;
  subrs = with_these (retain_keys stubs (λ i. nat_lt i (declared_count f.shell.subrs))) f.subrs (entries f.subrs);
  glyphs = f.glyphs;
}

-- this font weighs too much; or a growth was refused
abbrev pub FontRefused : FontValue → PartsFault → Type 0
FontRefused f Limit = weight_limit < weight f
FontRefused f Memory = Unit {0}
