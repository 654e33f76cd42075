-- The pieces of a font's two texts.
use Rattle.std.specs.Prelude.{ℕ, ◌-◌, nat_lt, List, [], ◌++◌, length, take, Option, Some, None, if◌then◌else◌}
use Rattle.t1_bytes.specs.Split.{split}
use Rattle.t1_font.specs.declared.fault.ReadFault.TheVariants.{NoEncoding, BadEncoding, NoCharStrings, BadLenIV, BadSubrs, BadGlyphs, Hybrid, NoClosefile}
use Rattle.t1_text.specs.{declared.dialect.Spacing.{Spacing}, declared.dialect.Dialect.{Dialect}, declared.dialect.Spacing.TheVariants.{White}, Subrs.{Subr, subr, subrs_end}}
use Rattle.t1_text.specs.{Markers.{encoding_marker, subrs_marker, chars_marker, len_iv_marker, len_iv, closefile}, Words.{next_name}}
use Rattle.t1_text.specs.{Encoding.{Opening, Whole, OpensPuts, OpensNames, encoding_start, code_entry, encoding_end, puts_of, code_count, array_end, from_code}, Glyphs.{Glyph, glyph, glyphs_end}}
use Rattle.t1_text.specs.EntryLaws.{code_entry_eats, code_entry_apart, subr_eats, subr_apart, glyph_eats, glyph_apart}
use Rattle.t1_font.specs.Faults.{read_fault}
use Rattle.t1_font.specs.Reading.{Reading, give, ◌>>=◌, ◌>>◌, faulted, wanted, sought, if_sought, lacking, table, counted}

-- ---- the flat text

pub record FlatPieces : Type 0 where
  pub clear : List ℕ
  pub cipher : List ℕ

-- the clear text through the first `currentfile eexec`, and the cipher after it
unfoldable pub flat_pieces : List ℕ → Reading FlatPieces
flat_pieces flat = do
  parts ← faulted read_fault (split flat)
  give (record { clear = take parts.0 flat; cipher = parts.1 })

-- ---- the clear text

pub data EncodingText : Type 0 where
  OneWord : List ℕ → EncodingText
  Puts : List (ℕ × List ℕ) → EncodingText

pub record ClearPieces : Type 0 where
  pub head : List ℕ
  pub encoding : EncodingText
  pub clear_tail : List ℕ

-- what is opened, in the last part of the clear text; the names of an array are put at the codes of their places
unfoldable pub encoding_from : Dialect → List ℕ → Opening → List ℕ → Reading (EncodingText × List ℕ)
encoding_from d clear (Whole w) rest = give (OneWord w, rest)
encoding_from d clear OpensPuts rest = do
  puts ← table d.encoding BadEncoding (length clear) (code_entry d) (encoding_end d.encoding) (code_entry_eats d) (code_entry_apart d) rest
  give (Puts (puts_of puts.0), puts.2)
encoding_from d clear OpensNames rest = do
  names ← counted d.encoding BadEncoding (length clear) (next_name d.encoding) (array_end d.encoding) code_count rest
  give (Puts (from_code 0 names.0), names.2)

-- the head before the first Encoding marker, the Encoding, and what stands after it
unfoldable pub clear_pieces : Dialect → List ℕ → Reading ClearPieces
clear_pieces d clear = do
  marker ← sought NoEncoding encoding_marker clear
  start ← wanted (BadEncoding (length marker.0.0)) (encoding_start d) marker.1
  encoding ← encoding_from d clear start.0 start.1
  give (record { head = marker.0.0; encoding = encoding.0; clear_tail = encoding.1 })

-- ---- the private text

pub record SubrsPieces : Type 0 where
  pub declared : ℕ
  pub entries : List Subr
  pub closing : List ℕ

pub record PrivatePieces : Type 0 where
  pub private : List ℕ
  pub len_iv : ℕ
  pub subrs : Option SubrsPieces
  pub middle : List ℕ
  pub glyphs : List Glyph
  pub tail : List ℕ

-- the first `/lenIV` decides; without one lenIV is 4
unfoldable pub iv_at : Option ((List ℕ × Unit {0}) × List ℕ) → Reading ℕ
iv_at None = give 4
iv_at (Some marker) = do
  n ← wanted BadLenIV len_iv marker.1
  give n.0

-- the lenIV of the text before the tables
unfoldable pub iv_of : List ℕ → Reading ℕ
iv_of private = do
  marker ← if_sought len_iv_marker private
  iv_at marker

-- through the first `closefile`, or to the end
abbrev pub through : Option ((List ℕ × List ℕ) × List ℕ) → List ℕ → List ℕ
through None rest = rest
through (Some x) rest = x.0.0 ++ x.0.1

-- the text through the first `closefile`; neither it nor the middle has a Subrs marker
unfoldable pub tail_after : List ℕ → List ℕ → Reading (List ℕ)
tail_after middle rest = do
  close ← if_sought closefile rest
  lacking Hybrid subrs_marker middle
  lacking Hybrid subrs_marker (through close rest)
  end ← sought NoClosefile closefile rest
  give (end.0.0 ++ end.0.1)

-- what stands before the CharStrings marker, and the glyphs after it, in a private text of so many bytes
unfoldable pub glyphs_from : ℕ → List ℕ → Option SubrsPieces → List ℕ → ℕ → List ℕ → Reading PrivatePieces
glyphs_from size private subrs middle iv rest = do
  glyphs ← table White BadGlyphs size (glyph iv) glyphs_end (glyph_eats iv) (glyph_apart iv) rest
  tail ← tail_after middle glyphs.2
  give (record { private = private; len_iv = iv; subrs = subrs; middle = middle; glyphs = glyphs.0; tail = tail })

-- the first Subrs marker, where it stands before the first CharStrings marker
abbrev pub before_place : ℕ → Option ((List ℕ × ℕ) × List ℕ) → Option ((List ℕ × ℕ) × List ℕ)
before_place n None = None
before_place n (Some x) = if nat_lt (length x.0.0) n then Some x else None

-- the tables behind the first Subrs marker, where one stands before that of CharStrings, else the glyphs alone
unfoldable pub tables_from : Spacing → ℕ → (List ℕ × Unit {0}) × List ℕ → Option ((List ℕ × ℕ) × List ℕ) → Reading PrivatePieces
tables_from d size chars None = do
  iv ← iv_of chars.0.0
  glyphs_from size chars.0.0 None [] iv chars.1
tables_from d size chars (Some marker) = do
  iv ← iv_of marker.0.0
  subrs ← table d BadSubrs size (subr d marker.0.1 iv) (subrs_end d) (subr_eats d marker.0.1 iv) (subr_apart d marker.0.1 iv) marker.1
  next ← sought (BadGlyphs (size - length subrs.2)) chars_marker subrs.2
  glyphs_from size marker.0.0 (Some (record { declared = marker.0.1; entries = subrs.0; closing = subrs.1 })) next.0.0 iv next.1

-- the pieces of a private text
unfoldable pub private_pieces : Spacing → List ℕ → Reading PrivatePieces
private_pieces d text = do
  chars ← sought NoCharStrings chars_marker text
  marker ← if_sought subrs_marker text
  tables_from d (length text) chars (before_place (length chars.0.0) marker)
