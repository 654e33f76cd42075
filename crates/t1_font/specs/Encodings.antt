-- The Encodings of two fonts: whether both are of one kind, and their join.
use Rattle.std.specs.Prelude.{◌≡◌}
use Rattle.t1_font.specs.{FontValue.{Encoding, Word, Codes}, Maps.{merged}}

-- the same word, or two tables
abbrev pub SameKind : Encoding → Encoding → Type 0
SameKind (Word v) (Word w) = v ≡ w
SameKind (Word v) (Codes n) = ⊥
SameKind (Codes m) (Word w) = ⊥
SameKind (Codes m) (Codes n) = Unit {0}

-- the codes of both tables; of two words the first, which is to be the second too
abbrev pub join_encodings : Encoding → Encoding → Encoding
join_encodings (Word w) e = Word w
join_encodings (Codes m) (Word w) = Codes m
join_encodings (Codes m) (Codes n) = Codes (merged m n)
