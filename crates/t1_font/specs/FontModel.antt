-- What the parts of a font in memory stand for, and what its readers answer.
use Rattle.std.specs.{Prelude.{◌≡◌, ℕ, ◌<◌, nat_lt, Bool, true, false, ◌⊎◌, min, List, [], Option, Some, None, IsSome, if◌then◌else◌}, Coded.{Coded, code_by, coded×, coded⊎, coded_ℕ, coded_option}}
use Rattle.std.specs.{FinMap.{get}, Option.{option_map}}
use Rattle.std.proofs.{Common.{inl, inr, refl}, lemmas.Bool.{ltb-true}}
use Rattle.t1_font.specs.{declared.shell.KeptSubrs.{KeptSubrs}, declared.font.LentEncoding.{LentEncoding}, declared.shell.Part.{Part}}
use Rattle.t1_font.specs.declared.shell.Part.TheVariants.{Head, ClearTail, Private, Middle, Tail, SubrsRd, SubrsPut, SubrsDef, GlyphsRd, GlyphsDef}
use Rattle.t1_font.specs.{FontValue.{FontValue, Shell, SubrsShell, Encoding, Word, Codes, SparseArray, CharStrings, declared_count}, Codes.{bytes_code, numbered_code, named_code}}
use Rattle.t1_font.specs.declared.shell.Shell.TheInside as shells
use Rattle.t1_font.specs.declared.font.LentEncoding.TheVariants as lent

-- ---- views

abbrev pub subrs_view : KeptSubrs → SubrsShell
subrs_view s = record { declared = s.declared; rd = s.rd.items; put = s.put.items; closing = s.closing.items }

abbrev pub shell_view : shells.Inside → Shell
shell_view s = record {
  head = s.head.items;
  clear_tail = s.clear_tail.items;
  private = s.private.items;
  middle = s.middle.items;
  tail = s.tail.items;
  len_iv = s.len_iv;
  subrs = option_map subrs_view s.subrs;
  glyphs_rd = s.glyphs_rd.items;
  glyphs_def = s.glyphs_def.items;
}

abbrev pub encoding_of : LentEncoding → Encoding
encoding_of (lent.Word w) = Word w.now
encoding_of (lent.Codes names) = Codes names

-- ---- codes: a font as lists and numbers

abbrev pub ShellTexts : Type 0
ShellTexts = List ℕ × (List ℕ × (List ℕ × (List ℕ × List ℕ)))

abbrev pub texts_code : Coded ShellTexts
texts_code = coded× bytes_code (coded× bytes_code (coded× bytes_code (coded× bytes_code bytes_code)))

abbrev pub subrs_shell_code : Coded SubrsShell
subrs_shell_code = code_by (ℕ × (List ℕ × (List ℕ × List ℕ))) (coded× coded_ℕ (coded× bytes_code (coded× bytes_code bytes_code)))
    (λ s. (s.declared, (s.rd, (s.put, s.closing)))) (λ p. record { declared = p.0; rd = p.1.0; put = p.1.1.0; closing = p.1.1.1 }) (λ s. refl)

abbrev pub shell_code : Coded Shell
shell_code = code_by (ShellTexts × (ℕ × (Option SubrsShell × (List ℕ × List ℕ))))
    (coded× texts_code (coded× coded_ℕ (coded× (coded_option subrs_shell_code) (coded× bytes_code bytes_code))))
    (λ s. ((s.head, (s.clear_tail, (s.private, (s.middle, s.tail)))), (s.len_iv, (s.subrs, (s.glyphs_rd, s.glyphs_def)))))
    (λ p. record {
      head = p.0.0;
      clear_tail = p.0.1.0;
      private = p.0.1.1.0;
      middle = p.0.1.1.1.0;
      tail = p.0.1.1.1.1;
      len_iv = p.1.0;
      subrs = p.1.1.0;
      glyphs_rd = p.1.1.1.0;
      glyphs_def = p.1.1.1.1;
    }) (λ s. refl)

abbrev pub from_encoding : Encoding → List ℕ ⊎ SparseArray
from_encoding (Word w) = inl w
from_encoding (Codes m) = inr m

abbrev pub to_encoding : List ℕ ⊎ SparseArray → Encoding
to_encoding (inl w) = Word w
to_encoding (inr m) = Codes m

abbrev pub encoding_again : (e : Encoding) → to_encoding (from_encoding e) ≡ e
encoding_again (Word w) = refl
encoding_again (Codes m) = refl

abbrev pub encoding_code : Coded Encoding
encoding_code = code_by (List ℕ ⊎ SparseArray) (coded⊎ bytes_code numbered_code) from_encoding to_encoding encoding_again

abbrev pub font_code : Coded FontValue
font_code = code_by (Shell × (Encoding × (SparseArray × CharStrings))) (coded× shell_code (coded× encoding_code (coded× numbered_code named_code)))
    (λ f. (f.shell, (f.encoding, (f.subrs, f.glyphs)))) (λ p. record { shell = p.0; encoding = p.1.0; subrs = p.1.1.0; glyphs = p.1.1.1 }) (λ f. refl)

-- ---- readers

-- of the table of Subrs, nothing where there is none
abbrev pub of_subrs : (SubrsShell → List ℕ) → Option SubrsShell → List ℕ
of_subrs f None = []
of_subrs f (Some s) = f s

-- a kept text or kept words
abbrev pub part_of : Part → Shell → List ℕ
part_of Head s = s.head
part_of ClearTail s = s.clear_tail
part_of Private s = s.private
part_of Middle s = s.middle
part_of Tail s = s.tail
part_of SubrsRd s = of_subrs (λ t. t.rd) s.subrs
part_of SubrsPut s = of_subrs (λ t. t.put) s.subrs
part_of SubrsDef s = of_subrs (λ t. t.closing) s.subrs
part_of GlyphsRd s = s.glyphs_rd
part_of GlyphsDef s = s.glyphs_def

-- the word that is the whole Encoding
abbrev pub word_of : Encoding → Option (List ℕ)
word_of (Word w) = Some w
word_of (Codes m) = None

-- the Encoding that is this word, or else the table of these names
abbrev pub encoding_by : Option (List ℕ) → SparseArray → Encoding
encoding_by (Some w) names = Word w
encoding_by None names = Codes names

-- the font of these parts: its Encoding is a word, or else the names of codes
abbrev pub font_by : Shell → Option (List ℕ) → SparseArray → SparseArray → CharStrings → FontValue
font_by shell word codes subrs glyphs = record { shell = shell; encoding = encoding_by word codes; subrs = subrs; glyphs = glyphs }

-- the name of a code in a table
abbrev pub name_at : Encoding → ℕ → Option (List ℕ)
name_at (Word w) code = None
name_at (Codes m) code = get m code

-- the Subr at an index that is declared
abbrev pub subr_at : FontValue → ℕ → Option (List ℕ)
subr_at f i = if nat_lt i (declared_count f.shell.subrs) then get f.subrs i else None

declared_so : (b : Bool) (o : Option (List ℕ)) → IsSome (if b then o else None) → b ≡ true
declared_so true o h = refl
declared_so false o h = cc

pub subrs_below : (f : FontValue) (i : ℕ) → IsSome (subr_at f i) → i < declared_count f.shell.subrs
subrs_below f i h = ltb-true i (declared_count f.shell.subrs) (declared_so (nat_lt i (declared_count f.shell.subrs)) (get f.subrs i) h)

-- what fits 64 bits of a number: the number, or the greatest that fits
abbrev pub clamp : ℕ → ℕ
clamp n = min n 18446744073709551615
