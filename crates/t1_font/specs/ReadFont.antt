-- Reading a font file.
use Rattle.std.specs.{Prelude.{ℕ, ◌&&◌, nat_le, Bool, List, [], ◌∷◌, length, Option, Some, None, Result}, List.{list_any}, Str.{bytes_eq}, Ordering.{nat_cmp}, Option.{option_map}}
use Rattle.t1_bytes.specs.{Cipher.{private_text}, Limits.{file_limit}}
use Rattle.t1_font.specs.{declared.fault.ReadFault.{ReadFault}, declared.fault.ReadFault.TheVariants.{TooLong, BadSegment, NoNotdef, Limit}}
use Rattle.t1_font.specs.FontValue.{SubrsShell, Shell, Encoding, Word, Codes, FontValue, name_cmp, notdef, count_limit, weight_limit, weight_of, declared_count}
use Rattle.t1_text.specs.{Entries.{last_entries, map_of, names_of}, declared.dialect.Dialect.{Dialect}, Dialect.{strict, wide}, Entry.{plain_entries}, Subrs.{Subr}}
use Rattle.t1_font.specs.Pieces.{FlatPieces, EncodingText, OneWord, Puts, ClearPieces, SubrsPieces, PrivatePieces, flat_pieces, clear_pieces, private_pieces}
use Rattle.t1_font.specs.Reading.{Reading, give, ◌>>=◌, ◌>>◌, faulted, must}
use Rattle.t1_bytes.specs.FlatText as files

-- ---- the value of the pieces

abbrev pub encoding_value : EncodingText → Encoding
encoding_value (OneWord w) = Word w
encoding_value (Puts puts) = Codes (names_of puts)

abbrev pub subrs_of : Option SubrsPieces → List Subr
subrs_of None = []
subrs_of (Some s) = s.entries

-- each Subr of the file, plain
abbrev pub subr_entries : PrivatePieces → List (ℕ × List ℕ)
subr_entries p = plain_entries p.len_iv (subrs_of p.subrs)

-- each glyph of the file, plain
abbrev pub glyph_entries : PrivatePieces → List (List ℕ × List ℕ)
glyph_entries p = plain_entries p.len_iv p.glyphs

-- of the first entry; nothing where there is none
abbrev pub of_first : {A : Type 0} → (A → List ℕ) → List A → List ℕ
of_first f [] = []
of_first f (x ∷ xs) = f x

-- what is kept of the table of Subrs, beside the Subrs
abbrev pub subrs_shell : SubrsPieces → SubrsShell
subrs_shell s = record {
  declared = s.declared;
  rd = of_first (λ e. e.body.rd) s.entries;
  put = of_first (λ e. e.body.phrase) s.entries;
  closing = s.closing;
}

abbrev pub shell_of : ClearPieces → PrivatePieces → Shell
shell_of c p = record {
  head = c.head;
  clear_tail = c.clear_tail;
  private = p.private;
  middle = p.middle;
  tail = p.tail;
  len_iv = p.len_iv;
  subrs = option_map subrs_shell p.subrs;
  glyphs_rd = of_first (λ g. g.body.rd) p.glyphs;
  glyphs_def = of_first (λ g. g.body.phrase) p.glyphs;
}

abbrev pub font_of : ClearPieces → PrivatePieces → FontValue
font_of c p = record { shell = shell_of c p; encoding = encoding_value c.encoding; subrs = map_of (subr_entries p); glyphs = map_of (glyph_entries p) }

-- ---- reading

-- the flat text of a file, or the place of its bad segment
unfoldable pub flat_reading : List ℕ → Reading (List ℕ)
flat_reading file = faulted BadSegment (files.flat_text file)

-- the clear text of a file, and its cipher
abbrev pub file_pieces : List ℕ → Reading FlatPieces
file_pieces file = do
  flat ← flat_reading file
  flat_pieces flat

abbrev pub has_notdef : PrivatePieces → Bool
has_notdef p = list_any (λ g. bytes_eq notdef g.key) p.glyphs

-- the limits of a font with these entries
abbrev pub is_within : Shell → List (ℕ × List ℕ) → List (List ℕ × List ℕ) → Bool
is_within s subrs glyphs = nat_le (declared_count s.subrs) count_limit && nat_le (length glyphs) count_limit && nat_le (weight_of s subrs glyphs) weight_limit

-- the font of the pieces, which has `.notdef` and is within the limits
unfoldable pub font_from : ClearPieces → PrivatePieces → Reading FontValue
font_from c p = do
  must NoNotdef (has_notdef p)
  must Limit (is_within (shell_of c p) (last_entries nat_cmp (subr_entries p)) (last_entries name_cmp (glyph_entries p)))
  give (font_of c p)

-- of a clear text and a private text
abbrev pub font_texts : Dialect → List ℕ → List ℕ → Reading FontValue
font_texts d clear private = do
  outside ← clear_pieces d clear
  inside ← private_pieces d.subrs private
  font_from outside inside

-- the font of a file that is not too long
unfoldable pub font_file : Dialect → List ℕ → Reading FontValue
font_file d file = do
  must TooLong (nat_le (length file) file_limit)
  flat ← flat_reading file
  parts ← flat_pieces flat
  font_texts d parts.clear (private_text parts.cipher)

-- the font of a file, or the first fault that applies
abbrev pub read_font : List ℕ → Result FontValue ReadFault
read_font file = (font_file strict file).read

-- the same of a file that may be spelled widely
abbrev pub read_font_widely : List ℕ → Result FontValue ReadFault
read_font_widely file = (font_file wide file).read
