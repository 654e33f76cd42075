-- Normalized fonts: subsets that other programs cut differ in white space, in lines that number the font, in tags before its name and in FontBBox, and
-- declare no Subrs after the last one used.
use Rattle.std.specs.{Prelude.{ℕ, max, nat_lt, List, [], ◌∷◌, map, filter}, List.{flat_map}, Option.{option_map}, FinMap.{entries, keys, from_entries}}
use Rattle.t1_font.specs.{FontValue.{FontValue, Shell, SubrsShell, SparseArray, declared_count}, Cut.{stub}, Maps.{merged}, NormalTexts.{normal_texts}, FontBoxes.{boxed}}

-- a table that declares at least so many Subrs
abbrev pub raised : ℕ → SubrsShell → SubrsShell
raised n s = record { declared = max n s.declared; rd = s.rd; put = s.put; closing = s.closing }

-- a shell of normalized texts, whose table of Subrs, where there is one, declares at least so many
abbrev pub normal_shell : ℕ → Shell → Shell
normal_shell n s = record (normal_texts s) { subrs = option_map (raised n) s.subrs }

-- a font of that shell
abbrev pub normal : ℕ → FontValue → FontValue
normal n f = record {
  shell = normal_shell n f.shell;
  encoding = f.encoding;
  subrs = f.subrs;
  glyphs = f.glyphs;
}

-- ---- stubs

-- a stub at each of these indices
abbrev pub stubs_at : List ℕ → SparseArray
stubs_at indices = from_entries (map (λ i. (i, stub)) indices)

-- the indices that are below a count
abbrev pub below_count : ℕ → List ℕ → List ℕ
below_count n indices = filter (λ i. nat_lt i n) indices

-- Subrs with a stub at each of these indices that they lack; where there are none, none
abbrev pub with_stubs : List ℕ → SparseArray → List (ℕ × List ℕ) → SparseArray
with_stubs indices m [] = m
with_stubs indices m (e ∷ es) = merged m (stubs_at indices)

-- a font with a stub at each of these indices that it declares and lacks; a table without entries has no words to write one with, and stays
abbrev pub filled : List ℕ → FontValue → FontValue
filled indices f = record {
  shell = f.shell;
  encoding = f.encoding;
  subrs = with_stubs (below_count (declared_count f.shell.subrs) indices) f.subrs (entries f.subrs);
  glyphs = f.glyphs;
}

-- ---- lists of fonts

-- the largest declared count of a list of fonts
abbrev pub largest_count : List FontValue → ℕ
largest_count [] = 0
largest_count (f ∷ fs) = max (declared_count f.shell.subrs) (largest_count fs)

-- the indices at which a font of the list has a Subr
abbrev pub indices_of_all : List FontValue → List ℕ
indices_of_all fs = flat_map (λ f. keys f.subrs) fs

-- the fonts with normalized texts, each with the largest declared count
abbrev pub each_normal : List FontValue → List FontValue
each_normal fs = map (normal (largest_count fs)) fs

-- these with one FontBBox
abbrev pub normalized_shells : List FontValue → List FontValue
normalized_shells fs = boxed (each_normal fs)

-- the fonts, each with a stub where it lacks a Subr that another has
abbrev pub filled_all : List FontValue → List FontValue
filled_all fs = map (filled (indices_of_all fs)) fs

-- the normalized fonts: with normalized texts, with one declared count and one FontBBox, and with Subrs at one set of indices
abbrev pub normalized : List FontValue → List FontValue
normalized fs = filled_all (normalized_shells fs)
