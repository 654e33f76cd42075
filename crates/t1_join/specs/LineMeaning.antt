-- What a line that was read says.
use Rattle.std.specs.{Prelude.{◌≡◌, ◌<◌, ℕ, List, Bool, true, false}, Borrow.{Bor}}
use Rattle.t1_join.specs.{ListingMeaning.{ListingMeaning, IsValue, index_limit, is_listed_name}, Meaning.{of_number}, declared.lines.Line.{Line}, declared.lines.Line.TheVariants.{Subr, Glyph}}
use Rattle.t1_join.specs.ListingText.{ListedEntry, subr, glyph, with_entry}
use Rattle.std.specs.FinMap as fin

-- the entry that a line of a listing says
abbrev pub line_entry : Line → ListedEntry
line_entry (Subr i v) = subr i v
line_entry (Glyph n v) = glyph n.now v

-- the entry has an index or a name, and a value
abbrev pub IsEntry : ListedEntry → Type 0
IsEntry (subr i v) = (i < index_limit) × IsValue v
IsEntry (glyph n v) = (is_listed_name n ≡ true) × IsValue v

-- two lent lists
abbrev pub slice_pair : Bor (List ℕ) × Bor (List ℕ) → List ℕ × List ℕ
slice_pair p = (p.0.now, p.1.now)

-- whether the listing has the entry's key
abbrev pub has_entry : ListingMeaning → ListedEntry → Bool
has_entry l (subr i v) = fin.contains_key l.subrs (of_number i)
has_entry l (glyph n v) = fin.contains_key l.glyphs n

-- the key was absent, and the entry stands there now
pub record IsAdded (old : ListingMeaning) (e : ListedEntry) (new : ListingMeaning) : Type 0 where
  pub absent : has_entry old e ≡ false
  pub new_entry : new ≡ with_entry e old
