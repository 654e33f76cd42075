-- What code returned, against what a reading reads.
use Rattle.std.specs.{Prelude.{◌≡◌, ℕ, List, Option, Some, None, Result, Ok, Err}, Option.{option_map}}
use Rattle.t1_font.specs.{declared.fault.ReadFault.{ReadFault}, declared.fault.ReadFault.TheVariants.{Memory}, declared.encoding.EncodingParts.{EncodingParts}}
use Rattle.t1_font.specs.{declared.encoding.ClearParts.{ClearParts}, declared.subrs.SubrsParts.{SubrsParts}, declared.glyphs.GlyphsParts.{GlyphsParts}, declared.private.Before.{Before}}
use Rattle.t1_font.specs.{declared.private.PrivateParts.{PrivateParts}, FontValue.{SparseArray, Encoding, Word, Codes}, Pieces.{ClearPieces, SubrsPieces, PrivatePieces}}
use Rattle.t1_text.specs.{Glyphs.{Glyph}, Views.{words_view}}
use Rattle.t1_font.specs.{ReadFont.{encoding_value, subrs_of}, Gathering.{Entries, without_notdef}, Held.{first_words, names_notdef, HoldsSubrs, HoldsGlyphs}}
use Rattle.t1_font.specs.declared.encoding.EncodingParts.TheVariants as parts

-- want of memory may come in place of each answer
abbrev pub Refused : {A : Type 0} → ReadFault → Result A ReadFault → Type 0
Refused Memory r = Unit {0}
Refused e r = r ≡ Err e

-- what was returned shows what is read, unless memory ran out
abbrev pub Shown : {X A : Type 0} → (X → A → Type 0) → Result X ReadFault → Result A ReadFault → Type 0
Shown {A = A} Shows (Ok x) r = (a : A) × (r ≡ Ok a) × Shows x a
Shown Shows (Err e) r = Refused e r

-- what was returned, seen by view, is what is read, unless memory ran out
abbrev pub Answers : {X A : Type 0} → (X → A) → Result X ReadFault → Result A ReadFault → Type 0
Answers view (Ok x) r = r ≡ Ok (view x)
Answers view (Err e) r = Refused e r

-- the Encoding of what was read, with what is gathered of codes
abbrev pub encoding_view : EncodingParts → SparseArray → Encoding
encoding_view (parts.OneWord w) codes = Word w.now
encoding_view parts.Puts codes = Codes (without_notdef codes)

pub record ShowsClear (x : ClearParts) (codes : SparseArray) (c : ClearPieces) : Type 0 where
  pub head : x.head.now ≡ c.head
  pub encoding : encoding_view x.encoding codes ≡ encoding_value c.encoding
  pub clear_tail : x.clear_tail.now ≡ c.clear_tail

pub record ShowsTable (x : SubrsParts) (s : SubrsPieces) : Type 0 where
  pub declared : x.declared ≡ s.declared
  pub words : option_map words_view x.words ≡ first_words s.entries
  pub closing : x.closing.items ≡ s.closing

abbrev pub ShowsSubrs : Option SubrsParts → Option SubrsPieces → Type 0
ShowsSubrs None None = Unit {0}
ShowsSubrs None (Some s) = ⊥
ShowsSubrs (Some x) None = ⊥
ShowsSubrs (Some x) (Some s) = ShowsTable x s

pub record ShowsGlyphs (x : GlyphsParts) (gs : List Glyph) : Type 0 where
  pub words : option_map words_view x.words ≡ first_words gs
  pub notdef : x.has_notdef ≡ names_notdef gs

-- how many Subrs are declared in what was read
abbrev pub declared_in : Option SubrsParts → ℕ
declared_in None = 0
declared_in (Some x) = x.declared

-- what stands before the glyphs, with what is gathered of Subrs
pub record ShowsBefore (x : Before) (subrs : SparseArray) (s : Option SubrsPieces) : Type 0 where
  pub table : ShowsSubrs x.subrs s
  pub bodies : HoldsSubrs (declared_in x.subrs) x.len_iv subrs (subrs_of s)

pub record ShowsPrivate (x : PrivateParts) (g : Entries) (p : PrivatePieces) : Type 0 where
  pub private : x.private.items ≡ p.private
  pub len_iv : x.len_iv ≡ p.len_iv
  pub subrs : ShowsSubrs x.subrs p.subrs
  pub subr_bodies : HoldsSubrs (declared_in x.subrs) p.len_iv g.subrs (subrs_of p.subrs)
  pub middle : x.middle.items ≡ p.middle
  pub glyphs : ShowsGlyphs x.glyphs p.glyphs
  pub glyph_bodies : HoldsGlyphs p.len_iv g.glyphs p.glyphs
  pub tail : x.tail.items ≡ p.tail
