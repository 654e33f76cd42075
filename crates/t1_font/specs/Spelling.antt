-- Which font a file spells: each piece is a text of its grammar, and each marker is the first of its kind.
use Rattle.std.specs.Prelude.{◌≡◌, ◌⊎◌, ℕ, ◌≤◌, ◌<◌, true, List, [], ◌++◌, length, take, Option, Some, None}
use Rattle.t1_bytes.specs.{Cipher.{Enciphers}, FlatText.{IsFlat}, Split.{IsSplit}, Limits.{file_limit}}
use Rattle.t1_grammar.specs.{Grammar.{first, AtFront, Lacks}, Tables.{TableAt, CountedAt}}
use Rattle.t1_text.specs.{declared.dialect.Spacing.{Spacing}, declared.dialect.Dialect.{Dialect}, Dialect.{strict, wide}, Subrs.{subr, subrs_end}}
use Rattle.t1_text.specs.{Markers.{encoding_marker, subrs_marker, chars_marker, len_iv_marker, len_iv, closefile}, Words.{next_name}}
use Rattle.t1_text.specs.{Encoding.{Whole, OpensPuts, OpensNames, encoding_start, CodeEntry, code_entry, encoding_end, puts_of, code_count, array_end, from_code}, Glyphs.{glyph, glyphs_end}}
use Rattle.t1_font.specs.{Pieces.{EncodingText, OneWord, Puts, ClearPieces, SubrsPieces, PrivatePieces}, FontValue.{FontValue, notdef, FitsLimits}, ReadFont.{font_of}}
use Rattle.std.specs.FinMap as maps

-- a table: the puts are those of its entries
abbrev pub SpellsPuts : Dialect → List (ℕ × List ℕ) → List ℕ → List ℕ → Type 0
SpellsPuts d puts bytes rest =
    (es : List CodeEntry) × (entries closing : List ℕ) × (puts ≡ puts_of es) × AtFront (encoding_start d) bytes (OpensPuts, entries) ×
    TableAt (code_entry d) (encoding_end d.encoding) es closing entries rest

-- a literal array: the puts are its names at the codes of their places
abbrev pub SpellsNames : Dialect → List (ℕ × List ℕ) → List ℕ → List ℕ → Type 0
SpellsNames d puts bytes rest = (names : List (List ℕ)) × (entries closing : List ℕ) × (puts ≡ from_code 0 names)
    × AtFront (encoding_start d) bytes (OpensNames, entries) × CountedAt (next_name d.encoding) (array_end d.encoding) code_count names closing entries rest

abbrev pub SpellsEncoding : Dialect → EncodingText → List ℕ → List ℕ → Type 0
SpellsEncoding d (OneWord w) bytes rest = AtFront (encoding_start d) bytes (Whole w, rest)
SpellsEncoding d (Puts puts) bytes rest = SpellsPuts d puts bytes rest ⊎ SpellsNames d puts bytes rest

-- the head, the first Encoding, and what stands after it
pub record IsClear (d : Dialect) (clear : List ℕ) (c : ClearPieces) : Type 0 where
  pub after : List ℕ
  pub marker : AtFront (first encoding_marker) clear ((c.head, tt), after)
  pub encoding : SpellsEncoding d c.encoding after c.clear_tail

-- the first `/lenIV` of the text before the tables says n; without one n is 4
pub data IsLenIV (private : List ℕ) (n : ℕ) : Type 0 where
  said : (front after rest : List ℕ) → AtFront (first len_iv_marker) private ((front, tt), after) → AtFront len_iv after (n, rest) → IsLenIV private n
  unsaid : Lacks len_iv_marker private → n ≡ 4 → IsLenIV private n

-- no Subrs marker stands before a place
pub data NotBefore (text : List ℕ) (place : ℕ) : Type 0 where
  nowhere : Lacks subrs_marker text → NotBefore text place
  later : (front : List ℕ) (declared : ℕ) (after : List ℕ) →
      AtFront (first subrs_marker) text ((front, declared), after) → place ≤ length front → NotBefore text place

-- where the tables begin: private stands before the marker of Subrs, where there are any, else before that of CharStrings
abbrev pub Start : List ℕ → List ℕ → Option ℕ → List ℕ → Type 0
Start text private None rest = AtFront (first chars_marker) text ((private, tt), rest) × NotBefore text (length private)
Start text private (Some declared) rest = (chars after : List ℕ) × AtFront (first chars_marker) text ((chars, tt), after)
    × AtFront (first subrs_marker) text ((private, declared), rest) × (length private < length chars)

-- the private text up to its glyphs
abbrev pub SpellsTables : Spacing → List ℕ → PrivatePieces → Option SubrsPieces → List ℕ → Type 0
SpellsTables d text p None glyphs = Start text p.private None glyphs × (p.middle ≡ [])
SpellsTables d text p (Some s) glyphs = (entries between : List ℕ) × Start text p.private (Some s.declared) entries
    × TableAt (subr d s.declared p.len_iv) (subrs_end d) s.entries s.closing entries between × AtFront (first chars_marker) between ((p.middle, tt), glyphs)

pub record HasTables (d : Spacing) (text : List ℕ) (p : PrivatePieces) (glyphs : List ℕ) : Type 0 where
  pub tables : SpellsTables d text p p.subrs glyphs
  pub len_iv : IsLenIV p.private p.len_iv

-- the private text through its glyphs
pub record HasGlyphs (d : Spacing) (text : List ℕ) (p : PrivatePieces) (after : List ℕ) : Type 0 where
  pub start : List ℕ
  pub closing : List ℕ
  pub tables : HasTables d text p start
  pub glyphs : TableAt (glyph p.len_iv) glyphs_end p.glyphs closing start after

pub record IsPrivate (d : Spacing) (text : List ℕ) (p : PrivatePieces) : Type 0 where
  pub after : List ℕ
  pub front : List ℕ
  pub own : List ℕ
  pub rest : List ℕ
  pub before : HasGlyphs d text p after
  pub close : AtFront (first closefile) after ((front, own), rest)
  pub tail : p.tail ≡ front ++ own
  pub single : Lacks subrs_marker p.middle × Lacks subrs_marker p.tail

-- the clear text of a file, through its first `currentfile eexec`, and the private text, whose cipher follows
pub record HasTexts (file clear text : List ℕ) : Type 0 where
  pub flat : List ℕ
  pub at : ℕ
  pub cipher : List ℕ
  pub lead : List ℕ
  pub short : length file ≤ file_limit
  pub flat_is : IsFlat file flat
  pub split : IsSplit flat at cipher
  pub clear_is : clear ≡ take at flat
  pub secret : Enciphers 55665 (lead ++ text) cipher
  pub lead_is : length lead ≡ 4

-- the pieces of a file
pub record HasPieces (d : Dialect) (file : List ℕ) (outside : ClearPieces) (inside : PrivatePieces) : Type 0 where
  pub clear : List ℕ
  pub text : List ℕ
  pub texts : HasTexts file clear text
  pub clear_is : IsClear d clear outside
  pub private_is : IsPrivate d.subrs text inside

-- the font that a file spells in a dialect
pub record SpellsIn (d : Dialect) (file : List ℕ) (font : FontValue) : Type 0 where
  pub outside : ClearPieces
  pub inside : PrivatePieces
  pub pieces : HasPieces d file outside inside
  pub value : font ≡ font_of outside inside
  pub has_notdef : maps.contains_key font.glyphs notdef ≡ true
  pub within : FitsLimits font

-- the font that a file spells
abbrev pub Spells : List ℕ → FontValue → Type 0
Spells = SpellsIn strict

-- the same, where comments, copies of codes and `readonly` may stand as other programs write them
abbrev pub SpellsWidely : List ℕ → FontValue → Type 0
SpellsWidely = SpellsIn wide
