-- What was read of a listing before its keys are compared.
use Rattle.std.specs.{Prelude.{◌≡◌, List, [], ◌∷◌, ◌++◌}, List.{IsDistinct}, Map.{keys_of}, Ordering.{eq_by_cmp}}
use Rattle.t1_join.specs.{Meaning.{Meaning, meaning_cmp, of_number}, TableMeaning.{TableMeaning}, ListingText.{ListedEntry, subr, glyph}}
use Rattle.std.specs.FinMap as fin

-- the entries of Subrs and of glyphs, each in the order of their lines
pub record Unsorted : Type 0 where
  pub subrs : List (Meaning × Meaning)
  pub glyphs : List (Meaning × Meaning)

-- with the entry of one more line
abbrev pub with_line : ListedEntry → Unsorted → Unsorted
with_line (subr i v) u = record { subrs = u.subrs ++ (of_number i, v) ∷ []; glyphs = u.glyphs }
with_line (glyph n v) u = record { subrs = u.subrs; glyphs = u.glyphs ++ (n, v) ∷ [] }

-- no two entries have one key
abbrev pub KeysDiffer : List (Meaning × Meaning) → Type 0
KeysDiffer es = IsDistinct (eq_by_cmp meaning_cmp) (keys_of es)

-- no key comes twice, and the table has the entries
pub record IsTableOf (es : List (Meaning × Meaning)) (t : TableMeaning) : Type 0 where
  pub differ : KeysDiffer es
  pub table : t ≡ fin.from_entries es

-- no two Subrs have one index, and no two glyphs one name
abbrev pub AllKeysDiffer : Unsorted → Type 0
AllKeysDiffer u = KeysDiffer u.subrs × KeysDiffer u.glyphs

-- each is the table of its entries
abbrev pub AreTablesOf : Unsorted → TableMeaning × TableMeaning → Type 0
AreTablesOf u t = IsTableOf u.subrs t.0 × IsTableOf u.glyphs t.1
