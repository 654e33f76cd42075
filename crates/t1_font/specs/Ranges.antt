-- Byte strings that stand in a buffer.
use Rattle.std.specs.{Prelude.{ℕ, ◌+◌, ◌-◌, ◌*◌, ◌≤◌, ◌++◌, min, max, List, take, drop, length, slice_range, replicate}, Int.{w64, from_be_bytes}, List.{All}, declared.cmp.Ordering.{Ordering}}
use Rattle.t1_font.specs.{declared.ranges.Range.{Range}, FontValue.{name_cmp}}

-- the bytes of a range
abbrev pub bytes_at : List ℕ → Range → List ℕ
bytes_at buffer r = slice_range buffer r.start r.end

-- the range is inside a buffer of so many bytes
pub record IsInside (size : ℕ) (r : Range) : Type 0 where
  pub ordered : r.start ≤ r.end
  pub within : r.end ≤ size

-- the range of each entry is
abbrev pub AllInside : {K : Type 0} → ℕ → List (K × Range) → Type 0
AllInside size es = All (λ e. IsInside size e.1) es

-- the range of each name is
abbrev pub NamesInside : ℕ → List (Range × Range) → Type 0
NamesInside size es = All (λ e. IsInside size e.0) es

-- an entry by number, and one by name
abbrev pub numbered_at : List ℕ → ℕ × Range → ℕ × List ℕ
numbered_at buffer e = (e.0, bytes_at buffer e.1)

abbrev pub named_at : List ℕ → Range × Range → List ℕ × List ℕ
named_at buffer e = (bytes_at buffer e.0, bytes_at buffer e.1)

-- the order of the names in two ranges
abbrev pub by_name : List ℕ → Range → Range → Ordering
by_name buffer r s = name_cmp (bytes_at buffer r) (bytes_at buffer s)

-- what the first eight bytes of a name spell as a number, the first byte highest: bytes 0 stand behind a shorter name
abbrev pub front : List ℕ → ℕ
front name = from_be_bytes w64 (take 8 name ++ replicate (8 - length name) 0)

-- the same of the first sixteen bytes
abbrev pub long_front : List ℕ → ℕ
long_front name = front name * 18446744073709551616 + front (drop (min (length name) 8) name)

-- the weight of a Subr, and of a glyph, whose charstring is in a range
abbrev pub subr_at_weight : ℕ → ℕ → Range → ℕ
subr_at_weight len_iv i r = 128 + len_iv + max 1 (r.end - r.start)

abbrev pub glyph_at_weight : ℕ → Range → Range → ℕ
glyph_at_weight len_iv name r = 256 + len_iv + (r.end - r.start)
