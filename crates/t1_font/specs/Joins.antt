-- A font of the entries of two, and why these are not one font.
use Rattle.std.specs.{Prelude.{◌<◌, ◌⊎◌, cond, List, ℕ, Option, unwrap_or}, Str.{bytes_eq}, FinMap.{get, len, entries}}
use Rattle.t1_join.specs.Passes.{first_met}
use Rattle.t1_font.specs.{declared.parts.PartsFault.{PartsFault}, declared.parts.PartsFault.TheVariants.{Limit, Memory}}
use Rattle.t1_font.specs.FontValue.{FontValue, CharStrings, name_cmp, count_limit, weight_limit, weight}
use Rattle.t1_font.specs.{Cut.{stub}, Encodings.{join_encodings}, Maps.{map_values, merged}}

-- the smallest name for which both tables have a glyph, with different charstrings
abbrev pub differing_name : CharStrings → CharStrings → Option (List ℕ)
differing_name m n = first_met name_cmp bytes_eq (entries m) (entries n)

-- the entry c, or where it is a stub the other font's
abbrev pub joined_subr : List ℕ → Option (List ℕ) → List ℕ
joined_subr c other = cond (bytes_eq c stub) (unwrap_or other c) c

-- the entries of both fonts, a stub giving way to the other's entry
abbrev pub join_parts : FontValue → FontValue → FontValue
join_parts f g = record {
  shell = f.shell;
  encoding = join_encodings f.encoding g.encoding;
  subrs = map_values (λ i c. joined_subr c (get g.subrs i)) f.subrs;
  glyphs = merged f.glyphs g.glyphs;
}

-- there are too many glyphs, or they weigh too much with the rest
abbrev pub IsOverLimits : FontValue → Type 0
IsOverLimits f = (count_limit < len f.glyphs) ⊎ (weight_limit < weight f)

-- so these entries are no font; or a growth was refused
abbrev pub Refuses : FontValue → PartsFault → Type 0
Refuses f Limit = IsOverLimits f
Refuses f Memory = Unit {0}
