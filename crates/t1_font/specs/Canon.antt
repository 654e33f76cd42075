-- The canonical file of a font: a function of the font value alone.
use Rattle.std.specs.{Prelude.{◌≡◌, ℕ, false, List, map}, Option.{option_map}, FinMap.{entries}}
use Rattle.t1_bytes.specs.{declared.form.Form.{Form}, declared.form.Form.TheVariants.{Pfa, Pfb}, Cipher.{sealed, private_cipher}, Texts.{file_text}, FlatText.{starts_segment}}
use Rattle.t1_font.specs.Pieces.{EncodingText, OneWord, Puts, ClearPieces, SubrsPieces, PrivatePieces}
use Rattle.t1_text.specs.{Entry.{Entry}, Subrs.{Subr}, Glyphs.{Glyph}}
use Rattle.t1_font.specs.{FontValue.{FontValue, Shell, SubrsShell, Encoding, Word, Codes}, Writing.{private_written, clear_written}}

-- a charstring as it stands in a file: behind lenIV zeros, encrypted
abbrev pub sealed_body : ℕ → List ℕ → List ℕ
sealed_body len_iv plain = sealed 4330 len_iv plain

-- an entry for a key and its charstring, with these words
abbrev pub sealed_entry : {K : Type 0} → ℕ → List ℕ → List ℕ → K × List ℕ → Entry K
sealed_entry len_iv rd phrase e = record { key = e.0; body = record { rd = rd; bytes = sealed_body len_iv e.1; phrase = phrase } }

-- an entry of Subrs, with the kept words
abbrev pub subr_entry : ℕ → SubrsShell → ℕ × List ℕ → Subr
subr_entry len_iv s e = sealed_entry len_iv s.rd s.put e

-- a glyph, with the kept words
abbrev pub glyph_entry : Shell → List ℕ × List ℕ → Glyph
glyph_entry s e = sealed_entry s.len_iv s.glyphs_rd s.glyphs_def e

-- the table of Subrs with these entries, in the order of their indices
abbrev pub subrs_pieces : ℕ → List (ℕ × List ℕ) → SubrsShell → SubrsPieces
subrs_pieces len_iv es s = record { declared = s.declared; entries = map (subr_entry len_iv s) es; closing = s.closing }

-- the pieces of the private text of a shell with these Subrs and glyphs, in the order of their keys
abbrev pub inside_of : Shell → List (ℕ × List ℕ) → List (List ℕ × List ℕ) → PrivatePieces
inside_of s subrs glyphs = record {
  private = s.private;
  len_iv = s.len_iv;
  subrs = option_map (subrs_pieces s.len_iv subrs) s.subrs;
  middle = s.middle;
  glyphs = map (glyph_entry s) glyphs;
  tail = s.tail;
}

-- the Encoding, its codes in their order
abbrev pub encoding_pieces : Encoding → EncodingText
encoding_pieces (Word w) = OneWord w
encoding_pieces (Codes m) = Puts (entries m)

-- the pieces of the clear text of a shell with this Encoding
abbrev pub outside_of : Shell → EncodingText → ClearPieces
outside_of s encoding = record { head = s.head; encoding = encoding; clear_tail = s.clear_tail }

-- the canonical clear text
abbrev pub canon_clear : FontValue → List ℕ
canon_clear f = clear_written (outside_of f.shell (encoding_pieces f.encoding))

-- the canonical private text
abbrev pub canon_private : FontValue → List ℕ
canon_private f = private_written (inside_of f.shell (entries f.subrs) (entries f.glyphs))

-- the canonical file
abbrev pub canon : FontValue → Form → List ℕ
canon f form = file_text form (canon_clear f) (private_cipher (canon_private f))

-- the file can be told from a PFB: it is one, or the head doesn't begin with byte 128
abbrev pub Fits : Form → FontValue → Type 0
Fits Pfa f = starts_segment f.shell.head ≡ false
Fits Pfb f = Unit {0}
