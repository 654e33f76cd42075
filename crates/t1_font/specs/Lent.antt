-- What borrowed entries stand for.
use Rattle.std.specs.{Prelude.{◌≡◌, ℕ, List, map, unwrap_or}, Borrow.{Bor}, FinMap.{get, entries, from_entries}, List.{AllByRecursion}}
use Rattle.t1_font.specs.{declared.lent.SparseArrayForm.{SparseArrayForm}, declared.lent.Glyph.{Glyph}}
use Rattle.t1_font.specs.{declared.lent.CharStringsForm.{CharStringsForm}, Cut.{stub}, FontValue.{SparseArray, CharStrings}, Ranges.{named_at}}
use Rattle.t1_font.specs.declared.lent.SparseArrayForm.TheVariants as numbers
use Rattle.t1_font.specs.declared.lent.CharStringsForm.TheVariants as names

-- an entry by number
abbrev pub lent_number : ℕ × Bor (List ℕ) → ℕ × List ℕ
lent_number e = (e.0, e.1.now)

-- an entry by name
abbrev pub lent_name : Bor (List ℕ) × Bor (List ℕ) → List ℕ × List ℕ
lent_name e = (e.0.now, e.1.now)

-- a glyph by its name
abbrev pub lent_glyph : Glyph → List ℕ × List ℕ
lent_glyph g = named_at g.buffer.now.items g.places.now

-- a stub at an index; and a table's Subr there, or a stub
abbrev pub stub_at : ℕ → ℕ × List ℕ
stub_at i = (i, stub)

abbrev pub filled_at : SparseArray → ℕ → ℕ × List ℕ
filled_at own i = (i, unwrap_or (get own i) stub)

-- the entries of a table by number, and of one by name, wherever they stand
abbrev pub numbered_entries : SparseArrayForm → List (ℕ × List ℕ)
numbered_entries (numbers.Stored own) = entries own
numbered_entries (numbers.Filled own indices) = map (filled_at own) indices.now
numbered_entries (numbers.Made entries) = map lent_number entries.items

abbrev pub named_entries : CharStringsForm → List (List ℕ × List ℕ)
named_entries (names.Stored buffer places) = map (named_at buffer.now.items) places.now
named_entries (names.Made glyphs) = map lent_glyph glyphs.items

-- ---- glyphs under names in a tree

-- the name, with the glyph's charstring
abbrev pub keyed_glyph : Bor (List ℕ) × Glyph → List ℕ × List ℕ
keyed_glyph e = (e.0.now, (lent_glyph e.1).1)

-- the name is the glyph's own
abbrev pub IsOwn : Bor (List ℕ) × Glyph → Type 0
IsOwn e = e.0.now ≡ (lent_glyph e.1).0

-- each name is
abbrev pub AreOwn : List (Bor (List ℕ) × Glyph) → Type 0
AreOwn es = AllByRecursion IsOwn es

-- the map of them, in any order: at a repeated name the first stands
abbrev pub glyph_names : List (Bor (List ℕ) × Glyph) → CharStrings
glyph_names es = from_entries (map keyed_glyph es)
