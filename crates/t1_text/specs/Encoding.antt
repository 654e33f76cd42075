-- The Encoding of the clear text.
use Rattle.std.specs.{Ordering.{nat_cmp}, Prelude.{ℕ, zero, suc, ◌+◌, ◌-◌, ◌*◌, ◌&&◌, nat_le, Bool, true, false, List, [], ◌∷◌, ◌++◌, length, codes, unwrap_or}}
use Rattle.t1_grammar.specs.Grammar.{Grammar, pure, ◌>>=◌, ◌>>◌, that, run, fixed, either, may_be}
use Rattle.t1_text.specs.{declared.dialect.Spacing.{Spacing}, declared.dialect.Dialect.{Dialect}, Names.{notdef}, Entries.{last_value}, Dialect.{white_in, gap_in}}
use Rattle.t1_text.specs.Words.{is_regular, word, keyword, decimal, name}

abbrev pub readonly : Spacing → Grammar (List ℕ)
readonly d = may_be (do
  keyword (codes "readonly")
  gap_in d)

-- what may stand between a word that is the whole Encoding and its `def`
abbrev pub readonly_if : Bool → Spacing → Grammar (List ℕ)
readonly_if false s = pure []
readonly_if true s = readonly s

abbrev pub before_def : Dialect → Grammar (List ℕ)
before_def d = readonly_if d.readonly d.encoding

-- a word that is the whole Encoding
unfoldable pub encoding_word : Dialect → Grammar (List ℕ)
encoding_word d = do
  white_in d.encoding
  w ← word
  gap_in d.encoding
  before_def d
  keyword (codes "def")
  pure w

unfoldable pub encoding_table : Spacing → Grammar (List ℕ)
encoding_table d = do
  white_in d
  keyword (codes "256")
  gap_in d
  keyword (codes "array")

-- 0 1 255
abbrev pub loop_range : Spacing → Grammar (List ℕ)
loop_range d = do
  white_in d
  keyword (codes "0")
  gap_in d
  keyword (codes "1")
  gap_in d
  keyword (codes "255")

-- 1 index exch /.notdef put
abbrev pub loop_body : Spacing → Grammar (List ℕ)
loop_body d = do
  white_in d
  keyword (codes "1")
  gap_in d
  keyword (codes "index")
  gap_in d
  keyword (codes "exch")
  white_in d
  fixed (codes "/")
  keyword (codes ".notdef")
  gap_in d
  keyword (codes "put")

-- 0 1 255 {1 index exch /.notdef put} for
unfoldable pub encoding_loop : Spacing → Grammar (List ℕ)
encoding_loop d = do
  loop_range d
  white_in d
  fixed (codes "{")
  loop_body d
  white_in d
  fixed (codes "}")
  white_in d
  keyword (codes "for")

abbrev pub all_octal : List ℕ → Bool
all_octal [] = true
all_octal (b ∷ bs) = nat_le 48 b && nat_le b 55 && all_octal bs

abbrev pub octal_after : ℕ → List ℕ → ℕ
octal_after n [] = n
octal_after n (b ∷ bs) = octal_after (n * 8 + (b - 48)) bs

abbrev pub is_octal : List ℕ → Bool
is_octal w = nat_le 1 (length w) && nat_le (length w) 9 && all_octal w

-- `8#` and 1 to 9 octal digits
unfoldable pub octal : Grammar ℕ
octal = do
  fixed (codes "8#")
  w ← that is_octal (run is_regular)
  pure (octal_after 0 w)

-- how many codes there are
abbrev pub code_count : ℕ
code_count = 256

-- in decimal or in octal digits
abbrev pub decimal_or_octal : Grammar ℕ
decimal_or_octal = either decimal octal

unfoldable pub code : Grammar ℕ
code = that (λ n. nat_le n 255) decimal_or_octal

-- an entry of the table: a name at a code; or the names of so many codes, from one on, at the codes from another one on
pub data CodeEntry : Type 0 where
  Put : ℕ → List ℕ → CodeEntry
  Copy : ℕ → ℕ → ℕ → CodeEntry

-- dup CODE /NAME put
unfoldable pub put_entry : Spacing → Grammar CodeEntry
put_entry d = do
  white_in d
  keyword (codes "dup")
  gap_in d
  c ← code
  white_in d
  n ← name
  gap_in d
  keyword (codes "put")
  pure (Put c n)

-- dup dup
abbrev pub copy_start : Spacing → Grammar (List ℕ)
copy_start d = do
  white_in d
  keyword (codes "dup")
  gap_in d
  keyword (codes "dup")
  gap_in d

-- dup dup TO exch FROM get put
unfoldable pub one_copy : Spacing → Grammar CodeEntry
one_copy d = do
  copy_start d
  to ← code
  gap_in d
  keyword (codes "exch")
  gap_in d
  from ← code
  gap_in d
  keyword (codes "get")
  gap_in d
  keyword (codes "put")
  pure (Copy from 1 to)

-- so many codes from one on are codes
abbrev pub are_codes : ℕ → ℕ → Bool
are_codes from count = nat_le (from + count) code_count

-- a copy is within the codes
abbrev pub within_codes : CodeEntry → Bool
within_codes (Put c n) = true
within_codes (Copy from count to) = are_codes from count && are_codes to count

-- dup dup FROM COUNT getinterval
unfoldable pub copied_range : Spacing → Grammar (ℕ × ℕ)
copied_range d = do
  copy_start d
  from ← decimal_or_octal
  gap_in d
  count ← decimal_or_octal
  gap_in d
  keyword (codes "getinterval")
  pure (from, count)

-- dup dup FROM COUNT getinterval TO exch putinterval
unfoldable pub copy_of_range : Spacing → Grammar CodeEntry
copy_of_range d = do
  range ← copied_range d
  gap_in d
  to ← decimal_or_octal
  gap_in d
  keyword (codes "exch")
  gap_in d
  keyword (codes "putinterval")
  pure (Copy range.0 range.1 to)

-- the same, within the codes
abbrev pub range_copy : Spacing → Grammar CodeEntry
range_copy d = that within_codes (copy_of_range d)

-- an entry of a table without copies, or with them
abbrev pub entry_with : Bool → Spacing → Grammar CodeEntry
entry_with false s = put_entry s
entry_with true s = either (put_entry s) (either (one_copy s) (range_copy s))

-- an entry of a table of codes: one that puts a name at a code, or, where the dialect allows it, one that copies names
abbrev pub code_entry : Dialect → Grammar CodeEntry
code_entry d = entry_with d.copies d.encoding

-- what closes an Encoding: white space, `readonly` or not, and `def`
unfoldable pub encoding_end : Spacing → Grammar (List ℕ)
encoding_end d = do
  white_in d
  readonly d
  keyword (codes "def")

-- ---- what the entries of a table put

-- the name of a code after these puts
abbrev pub name_after : List (ℕ × List ℕ) → ℕ → List ℕ
name_after puts c = unwrap_or (last_value nat_cmp c puts) notdef

-- the names of so many codes from `from` on, put at the codes from `to` on
abbrev pub copied : List (ℕ × List ℕ) → ℕ → ℕ → ℕ → List (ℕ × List ℕ)
copied puts from zero to = []
copied puts from (suc n) to = (to, name_after puts from) ∷ copied puts (suc from) n (suc to)

-- what one more entry puts after these puts
abbrev pub put_by : List (ℕ × List ℕ) → CodeEntry → List (ℕ × List ℕ)
put_by puts (Put c n) = (c, n) ∷ []
put_by puts (Copy from count to) = copied puts from count to

-- these puts, and then those of entries
abbrev pub puts_after : List (ℕ × List ℕ) → List CodeEntry → List (ℕ × List ℕ)
puts_after puts [] = puts
puts_after puts (e ∷ es) = puts_after (puts ++ put_by puts e) es

-- the puts of a table: each copy takes the names that its codes have by then
abbrev pub puts_of : List CodeEntry → List (ℕ × List ℕ)
puts_of es = puts_after [] es

-- ---- a literal array

unfoldable pub array_start : Spacing → Grammar (List ℕ)
array_start d = do
  white_in d
  fixed (codes "[")

-- the bracket that closes a literal array, and what closes the Encoding
unfoldable pub array_end : Spacing → Grammar (List ℕ)
array_end d = do
  white_in d
  fixed (codes "]")
  encoding_end d

-- each name at the code of its place, from this code on
abbrev pub from_code : ℕ → List (List ℕ) → List (ℕ × List ℕ)
from_code c [] = []
from_code c (n ∷ names) = (c, n) ∷ from_code (suc c) names

-- ---- the three forms

-- the word that is the whole Encoding; or what opens the puts of a table, or the names of a literal array
pub data Opening : Type 0 where
  Whole : List ℕ → Opening
  OpensPuts : Opening
  OpensNames : Opening

-- how the Encoding begins
unfoldable pub encoding_start : Dialect → Grammar Opening
encoding_start d = either (do
  w ← encoding_word d
  pure (Whole w)) (either (do
    encoding_table d.encoding
    may_be (encoding_loop d.encoding)
    pure OpensPuts) (do
      array_start d.encoding
      pure OpensNames))
