-- What is gathered of a font while it is read.
use Rattle.std.specs.{Prelude.{◌≡◌, ℕ, zero, suc, ◌≤◌, List, [], ◌∷◌, length, filter, map, drop, unwrap_or}, Coded.{Coded, code_by, coded×}, FinMap.{from_sorted, entries, get, insert}}
use Rattle.std.proofs.Common.{refl}
use Rattle.t1_bytes.specs.Limits.{file_limit}
use Rattle.t1_join.specs.Entries.{entries_by}
use Rattle.t1_font.specs.{declared.gathered.Gathered.TheInside.{Inside}, declared.ranges.Range.{Range}, FontValue.{SparseArray, CharStrings, notdef}}
use Rattle.t1_text.specs.{Encoding.{CodeEntry, Put, Copy}, Entries.{has_name, map_of}}
use Rattle.t1_font.specs.{Codes.{bytes_code, numbered_code, named_code}, Ranges.{bytes_at, AllInside, NamesInside, named_at}}

-- what is left of the private text; the last name of each code, `.notdef` among them, and the last plain charstring of
-- each Subr and of each glyph
pub record Entries : Type 0 where
  pub rest : List ℕ
  pub codes : SparseArray
  pub subrs : SparseArray
  pub glyphs : CharStrings

abbrev pub entries_code : Coded Entries
entries_code = code_by (List ℕ × (SparseArray × (SparseArray × CharStrings))) (coded× bytes_code (coded× numbered_code (coded× numbered_code named_code)))
    (λ g. (g.rest, (g.codes, (g.subrs, g.glyphs)))) (λ p. record { rest = p.0; codes = p.1.0; subrs = p.1.1.0; glyphs = p.1.1.1 }) (λ g. refl)

-- the charstrings of a buffer, by index and by name
abbrev pub gathered_subrs : List ℕ → List (ℕ × Range) → SparseArray
gathered_subrs buffer es = map_of (entries_by (λ k. k) (bytes_at buffer) es)

abbrev pub gathered_glyphs : List ℕ → List (Range × Range) → CharStrings
gathered_glyphs buffer es = map_of (map (named_at buffer) es)

abbrev pub gathered_value : Inside → Entries
gathered_value g = record {
  rest = drop g.at g.buffer.items;
  codes = g.codes;
  subrs = gathered_subrs g.buffer.items g.subrs.items;
  glyphs = gathered_glyphs g.buffer.items g.glyphs.items;
}

-- what is gathered stands before what is left, in a buffer that is no longer than a file
pub record IsGathered (g : Inside) : Type 0 where
  pub short : length g.buffer.items ≤ file_limit
  pub at : g.at ≤ length g.buffer.items
  pub subrs : AllInside g.at g.subrs.items
  pub names : NamesInside g.at g.glyphs.items
  pub glyphs : AllInside g.at g.glyphs.items

-- the names of codes, but for `.notdef`
abbrev pub without_notdef : SparseArray → SparseArray
without_notdef m = from_sorted (filter has_name (entries m))

-- ---- what an entry of an Encoding puts

-- the name of a code among those that are gathered
abbrev pub gathered_name : SparseArray → ℕ → List ℕ
gathered_name codes c = unwrap_or (get codes c) notdef

-- the names of so many codes from one on
abbrev pub copied_names : SparseArray → ℕ → ℕ → List (List ℕ)
copied_names codes from zero = []
copied_names codes from (suc n) = gathered_name codes from ∷ copied_names codes (suc from) n

-- names put at the codes from one on
abbrev pub named_from : SparseArray → ℕ → List (List ℕ) → SparseArray
named_from codes to [] = codes
named_from codes to (n ∷ names) = named_from (insert codes to n) (suc to) names

-- what is gathered with one entry more
abbrev pub kept_by : SparseArray → CodeEntry → SparseArray
kept_by codes (Put c n) = insert codes c n
kept_by codes (Copy from count to) = named_from codes to (copied_names codes from count)

-- nothing changed but the names of codes; the Subrs, or the glyphs, and what is left
abbrev pub CodesAlone : Entries → Entries → Type 0
CodesAlone old new = (new.rest ≡ old.rest) × (new.subrs ≡ old.subrs) × (new.glyphs ≡ old.glyphs)

abbrev pub SubrsAlone : Entries → Entries → Type 0
SubrsAlone old new = (new.codes ≡ old.codes) × (new.glyphs ≡ old.glyphs)

abbrev pub GlyphsAlone : Entries → Entries → Type 0
GlyphsAlone old new = (new.codes ≡ old.codes) × (new.subrs ≡ old.subrs)
