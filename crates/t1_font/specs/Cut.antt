-- A font cut to some of its names and Subrs.
use Rattle.std.specs.{Prelude.{ℕ, Bool, cond, List, [], ◌∷◌, map, unwrap_or}, FinMap.{get, retain_keys}, FinSet.{FinSet, from_list}, Global.{Vec}}
use Rattle.t1_font.specs.{FontValue.{FontValue, Encoding, Word, Codes, name_cmp}, Maps.{map_values}}

-- `return`
abbrev pub stub : List ℕ
stub = 11 ∷ []

-- ---- a cut

-- the set of these names
abbrev pub set_of_names : List (Vec ℕ) → FinSet name_cmp
set_of_names names = from_list (map (λ v. v.items) names)

-- the codes of these names
abbrev pub restrict_encoding : (List ℕ → Bool) → Encoding → Encoding
restrict_encoding names (Word w) = Word w
restrict_encoding names (Codes m) = Codes (retain_keys m (λ c. names (unwrap_or (get m c) [])))

-- the glyphs and codes of these names, and stubs for all but these Subrs
abbrev pub restrict : (List ℕ → Bool) → (ℕ → Bool) → FontValue → FontValue
restrict names subrs f = record {
  shell = f.shell;
  encoding = restrict_encoding names f.encoding;
  subrs = map_values (λ i c. cond (subrs i) c stub) f.subrs;
  glyphs = retain_keys f.glyphs names;
}
