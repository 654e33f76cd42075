-- What a source stands for, and what holds of each.
use Rattle.std.specs.{Prelude.{ℕ, List, [], map, length}, Ordering.{nat_cmp}, FinMap.{from_sorted}, Global.{Vec}}
use Rattle.t1_join.specs.TableMeaning.{Rises}
use Rattle.t1_font.specs.{declared.source.KeptEncoding.{KeptEncoding}, declared.source.SourceParts.TheInside.{Inside}, FontValue.{FontValue, Encoding, Word, Codes, name_cmp}}
use Rattle.t1_font.specs.Ranges.{AllInside, NamesInside, numbered_at, named_at}
use Rattle.t1_font.specs.declared.source.KeptEncoding.TheVariants as kept

-- a code and its name, which is owned
abbrev pub kept_name : ℕ × Vec ℕ → ℕ × List ℕ
kept_name e = (e.0, e.1.items)

abbrev pub kept_encoding : KeptEncoding → Encoding
kept_encoding (kept.Word w) = Word w.items
kept_encoding (kept.Codes names) = Codes (from_sorted (map kept_name names.items))

-- the codes that have names
abbrev pub codes_of : KeptEncoding → List (ℕ × List ℕ)
codes_of (kept.Word w) = []
codes_of (kept.Codes names) = map kept_name names.items

-- the font of the names and of the bytes in the ranges
abbrev pub source_value : Inside → FontValue
source_value s = record {
  shell = s.shell;
  encoding = kept_encoding s.encoding;
  subrs = from_sorted (map (numbered_at s.buffer.items) s.subrs.items);
  glyphs = from_sorted (map (named_at s.buffer.items) s.glyphs.items);
}

-- each range is inside the buffer, and the keys rise
pub record IsSource (s : Inside) : Type 0 where
  pub subrs_inside : AllInside (length s.buffer.items) s.subrs.items
  pub names_inside : NamesInside (length s.buffer.items) s.glyphs.items
  pub glyphs_inside : AllInside (length s.buffer.items) s.glyphs.items
  pub codes_rise : Rises nat_cmp (codes_of s.encoding)
  pub subrs_rise : Rises nat_cmp (map (numbered_at s.buffer.items) s.subrs.items)
  pub glyphs_rise : Rises name_cmp (map (named_at s.buffer.items) s.glyphs.items)
