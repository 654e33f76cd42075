-- Why a file spells no font: for each fault the condition under which it comes, over parts that are spelled and without the reader.
use Rattle.std.specs.Prelude.{◌≡◌, ◌≤◌, ◌<◌, ◌-◌, ℕ, true, false, List, ◌++◌, length, Option, Some}
use Rattle.t1_grammar.specs.{Grammar.{first, AtFront, NotAtFront, Has, Lacks}, Tables.{TableAt, BreaksOff, CountBreaksOff}}
use Rattle.t1_bytes.specs.{Limits.{file_limit}, FlatText.{IsFlat, IsBad}, Split.{SplitFails}}
use Rattle.t1_text.specs.{declared.dialect.Spacing.{Spacing}, declared.dialect.Spacing.TheVariants.{White}, declared.dialect.Dialect.{Dialect}, Dialect.{white_in, strict, wide}}
use Rattle.t1_text.specs.{Markers.{encoding_marker, subrs_marker, chars_marker, len_iv_marker, len_iv, closefile}, Words.{next_name}, Subrs.{Subr, subr, subrs_end}, Glyphs.{glyph, glyphs_end}}
use Rattle.t1_text.specs.Encoding.{OpensPuts, OpensNames, encoding_start, code_entry, encoding_end, code_count, array_end}
use Rattle.t1_font.specs.declared.fault.ReadFault.{ReadFault}
use Rattle.t1_font.specs.declared.fault.ReadFault.TheVariants.{TooLong, BadSegment, NoEexec, ShortCipher, NoEncoding, BadEncoding, NoCharStrings, BadLenIV, BadSubrs, BadGlyphs, Hybrid, NoClosefile}
use Rattle.t1_font.specs.declared.fault.ReadFault.TheVariants.{NoNotdef, Limit, Memory}
use Rattle.t1_font.specs.{Pieces.{ClearPieces, PrivatePieces}, FontValue.{FontValue, notdef, FitsLimits}, ReadFont.{font_of}}
use Rattle.t1_font.specs.Spelling.{IsClear, IsLenIV, Start, HasTables, HasGlyphs, HasTexts, HasPieces}
use Rattle.t1_bytes.specs.declared.fault.BytesFault.TheVariants as containers
use Rattle.std.specs.FinMap as maps

-- ---- places

-- the offset in a text where an entry is missing: of what is left there, white space and comments are skipped
pub record IsPlace (d : Spacing) (text left : List ℕ) (at : ℕ) : Type 0 where
  pub skipped : List ℕ
  pub rest : List ℕ
  pub behind : AtFront (white_in d) left (skipped, rest)
  pub place : at ≡ length text - length rest

-- ---- the clear text

-- behind the first Encoding marker no Encoding begins; or a table or an array begins, and an entry or its end is missing
pub data EncodingFails (d : Dialect) (clear : List ℕ) (at : ℕ) : Type 0 where
  unopened : (head after : List ℕ) →
      AtFront (first encoding_marker) clear ((head, tt), after) → NotAtFront (encoding_start d) after → at ≡ length head → EncodingFails d clear at
  table_breaks : (head after entries left : List ℕ) →
      AtFront (first encoding_marker) clear ((head, tt), after) → AtFront (encoding_start d) after (OpensPuts, entries) →
      BreaksOff (code_entry d) (encoding_end d.encoding) entries left → IsPlace d.encoding clear left at → EncodingFails d clear at
  array_breaks : (head after entries left : List ℕ) →
      AtFront (first encoding_marker) clear ((head, tt), after) → AtFront (encoding_start d) after (OpensNames, entries) →
      CountBreaksOff (next_name d.encoding) (array_end d.encoding) code_count entries left → IsPlace d.encoding clear left at → EncodingFails d clear at

-- ---- the private text

-- behind the first `/lenIV` before the tables stands no number of at most 255
pub record LenIVFails (text : List ℕ) : Type 0 where
  pub private : List ℕ
  pub declared : Option ℕ
  pub tables : List ℕ
  pub start : Start text private declared tables
  pub front : List ℕ
  pub after : List ℕ
  pub marker : AtFront (first len_iv_marker) private ((front, tt), after)
  pub bad : NotAtFront len_iv after

-- in the table of Subrs an entry or the end is missing
pub record SubrsFail (d : Spacing) (text : List ℕ) (at : ℕ) : Type 0 where
  pub private : List ℕ
  pub declared : ℕ
  pub entries : List ℕ
  pub iv : ℕ
  pub left : List ℕ
  pub start : Start text private (Some declared) entries
  pub len_iv : IsLenIV private iv
  pub breaks : BreaksOff (subr d declared iv) (subrs_end d) entries left
  pub place : IsPlace d text left at

-- no CharStrings marker stands behind the table of Subrs; or in the table of CharStrings an entry or the end is missing
pub data GlyphsFail (d : Spacing) (text : List ℕ) (at : ℕ) : Type 0 where
  unmarked : (private : List ℕ) (declared : ℕ) (entries : List ℕ) (iv : ℕ) (subrs : List Subr) (closing between : List ℕ) →
      Start text private (Some declared) entries → IsLenIV private iv → TableAt (subr d declared iv) (subrs_end d) subrs closing entries between →
      Lacks chars_marker between → at ≡ length text - length between → GlyphsFail d text at
  glyphs_break : (p : PrivatePieces) (glyphs left : List ℕ) →
      HasTables d text p glyphs → BreaksOff (glyph p.len_iv) glyphs_end glyphs left → IsPlace White text left at → GlyphsFail d text at

-- a marker of Subrs stands between the tables; or behind them, before the first `closefile` or, where none is, the end
pub data IsHybrid (d : Spacing) (text : List ℕ) : Type 0 where
  between : (p : PrivatePieces) (after : List ℕ) → HasGlyphs d text p after → Has subrs_marker p.middle → IsHybrid d text
  before_close : (p : PrivatePieces) (after front own rest : List ℕ) → HasGlyphs d text p after →
      AtFront (first closefile) after ((front, own), rest) → Has subrs_marker (front ++ own) → IsHybrid d text
  before_end : (p : PrivatePieces) (after : List ℕ) → HasGlyphs d text p after → Lacks closefile after → Has subrs_marker after → IsHybrid d text

-- no `closefile` stands behind the tables, nor a marker of Subrs between or behind them
pub record NeverCloses (d : Spacing) (text : List ℕ) : Type 0 where
  pub p : PrivatePieces
  pub after : List ℕ
  pub before : HasGlyphs d text p after
  pub unclosed : Lacks closefile after
  pub single : Lacks subrs_marker p.middle × Lacks subrs_marker after

-- ---- the file

-- a file within the limit has a flat text of which this holds
abbrev pub InFlat : List ℕ → (List ℕ → Type 0) → Type 0
InFlat file Holds = (flat : List ℕ) × (length file ≤ file_limit) × IsFlat file flat × Holds flat

-- the clear text of a file is one of which this holds
abbrev pub InClear : List ℕ → (List ℕ → Type 0) → Type 0
InClear file Holds = (clear text : List ℕ) × HasTexts file clear text × Holds clear

-- behind a clear text with an Encoding, the private text of a file is one of which this holds
abbrev pub InPrivate : Dialect → List ℕ → (List ℕ → Type 0) → Type 0
InPrivate d file Holds = (clear text : List ℕ) × (outside : ClearPieces) × HasTexts file clear text × IsClear d clear outside × Holds text

-- the pieces of a file are those of a font value of which this holds
abbrev pub InPieces : Dialect → List ℕ → (FontValue → Type 0) → Type 0
InPieces d file Holds = (outside : ClearPieces) × (inside : PrivatePieces) × HasPieces d file outside inside × Holds (font_of outside inside)

-- Why a file spells no font, a line for each fault, in the order in which they win over each other. Want of memory is no reason.
abbrev pub ReasonIn : Dialect → List ℕ → ReadFault → Type 0
ReasonIn d file TooLong = file_limit < length file
ReasonIn d file (BadSegment at) = (length file ≤ file_limit) × IsBad file at
ReasonIn d file NoEexec = InFlat file (λ flat. SplitFails flat containers.NoEexec)
ReasonIn d file ShortCipher = InFlat file (λ flat. SplitFails flat containers.ShortCipher)
ReasonIn d file NoEncoding = InClear file (λ clear. Lacks encoding_marker clear)
ReasonIn d file (BadEncoding at) = InClear file (λ clear. EncodingFails d clear at)
ReasonIn d file NoCharStrings = InPrivate d file (λ text. Lacks chars_marker text)
ReasonIn d file BadLenIV = InPrivate d file (λ text. LenIVFails text)
ReasonIn d file (BadSubrs at) = InPrivate d file (λ text. SubrsFail d.subrs text at)
ReasonIn d file (BadGlyphs at) = InPrivate d file (λ text. GlyphsFail d.subrs text at)
ReasonIn d file Hybrid = InPrivate d file (λ text. IsHybrid d.subrs text)
ReasonIn d file NoClosefile = InPrivate d file (λ text. NeverCloses d.subrs text)
ReasonIn d file NoNotdef = InPieces d file (λ font. maps.contains_key font.glyphs notdef ≡ false)
ReasonIn d file Limit = InPieces d file (λ font. (maps.contains_key font.glyphs notdef ≡ true) × (FitsLimits font → ⊥))
ReasonIn d file Memory = ⊥

-- the reason for a fault of reading
abbrev pub Reason : List ℕ → ReadFault → Type 0
Reason = ReasonIn strict

-- the reason for a fault of reading widely
abbrev pub WideReason : List ℕ → ReadFault → Type 0
WideReason = ReasonIn wide

-- which refusals are right in a dialect; want of memory always is
abbrev pub RefusesIn : Dialect → List ℕ → ReadFault → Type 0
RefusesIn d file Memory = Unit {0}
RefusesIn d file e = ReasonIn d file e

-- a fault with which a file may be refused
abbrev pub Refuses : List ℕ → ReadFault → Type 0
Refuses = RefusesIn strict

-- the same of a file that is read widely
abbrev pub RefusesWidely : List ℕ → ReadFault → Type 0
RefusesWidely = RefusesIn wide
