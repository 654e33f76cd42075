-- Subsets that other programs cut, and what they come to when they are normalized and merged.
use Rattle.std.specs.{Prelude.{◌≡◌, ℕ, ◌≤◌, ◌<◌, max, nat_lt, true, List, [], ◌∷◌, map, Option, Some, None, IsPermutation}, List.{AllByRecursion, list_all}, Option.{option_map}}
use Rattle.t1_join.specs.Groupings.{Grouping, leaves, map_grouping}
use Rattle.t1_font.specs.{FontValue.{FontValue, SubrsShell, declared_count}, IsFont.{IsFont}, NormalTexts.{normal_texts}, Normalizing.{each_normal, normalized_shells, normalized}}
use Rattle.t1_font.specs.FontBoxes.{box_of, font_with, can_have, boxes_of}
use Rattle.t1_text.specs.Boxes.{Box, joined_box}
use Rattle.t1_algebra.specs.{Interpreter.{Names}, Keep.{keep, kept, subset, IsOf}, Profile.{profile}, Alike.{DrawsAlike}, Groupings.{union_all, Merges}, Lacks.{first_lack}, Merges.{MergesTo}}
use Rattle.std.specs.FinMap as maps
use Rattle.std.specs.FinSet as sets

-- ---- fonts cut to their first Subrs

-- a table of Subrs that declares this many
abbrev pub declares : ℕ → SubrsShell → SubrsShell
declares n s = record s { declared = n }

-- a font cut to its first n Subrs: its table, if it has one, declares n Subrs and has those below n
abbrev pub cut_to : ℕ → FontValue → FontValue
cut_to n f = record f {
  shell = record f.shell { subrs = option_map (declares n) f.shell.subrs };
  subrs = maps.retain_keys f.subrs (λ i. nat_lt i n);
}

-- a font whose texts are normalized: their white space squeezed, without lines that number the font, and without tags
abbrev pub with_normal_texts : FontValue → FontValue
with_normal_texts f = record f { shell = normal_texts f.shell }

-- ---- truncated subsets

-- a font that was cut to these names and to this many Subrs
pub record Truncated : Type 0 where
  pub font : FontValue
  pub names : Names
  pub count : ℕ

-- fonts that are the same once one box, whichever it is, stands in place of that of each
abbrev pub SameButBox : FontValue → FontValue → Type 0
SameButBox f g = (u : Box) → font_with u f ≡ font_with u g

-- It is the subset of f over names of f, cut to its first Subrs, but for the box, once the texts of both are normalized: they may differ in white space,
-- in lines that number the font, in tags and in FontBBox. The first Subrs include those that it keeps and f has, and f declares no fewer.
pub record IsTruncated (f : FontValue) (t : Truncated) : Type 0 where
  pub font : IsFont t.font
  pub names : IsOf f t.names
  pub same : SameButBox (with_normal_texts t.font) (with_normal_texts (cut_to t.count (subset profile f t.names)))
  pub kept : (i : ℕ) → sets.contains (kept profile f t.names) i ≡ true → maps.contains_key f.subrs i ≡ true → i < t.count
  pub count : t.count ≤ declared_count f.shell.subrs

-- the fonts of a list of truncated subsets
abbrev pub truncated_fonts : List Truncated → List FontValue
truncated_fonts ts = map (λ t. t.font) ts

-- the sets of names of a list of truncated subsets
abbrev pub truncated_sets : List Truncated → List Names
truncated_sets ts = map (λ t. t.names) ts

-- all names of a list of truncated subsets
abbrev pub names_of_all : List Truncated → Names
names_of_all ts = union_all (truncated_sets ts)

-- the largest of the counts
abbrev pub largest : List Truncated → ℕ
largest [] = 0
largest (t ∷ ts) = max t.count (largest ts)

-- The box that they get: all have the font's own (None), or each of them, and the font, can have the one box for theirs.
abbrev pub GetBox : FontValue → List Truncated → Option Box → Type 0
GetBox f ts None = AllByRecursion (λ t. box_of (normal_texts t.font.shell) ≡ box_of (normal_texts f.shell)) ts
GetBox f ts (Some u) = (option_map joined_box (boxes_of (each_normal (truncated_fonts ts))) ≡ Some u)
    × (list_all (can_have u) (with_normal_texts f ∷ each_normal (truncated_fonts ts)) ≡ true)

-- a font with this box, if there is one
abbrev pub boxed_as : Option Box → FontValue → FontValue
boxed_as None f = f
boxed_as (Some u) f = font_with u f

-- the font with normalized texts and this box, cut to the largest of the counts
abbrev pub shared_font : FontValue → List Truncated → Option Box → FontValue
shared_font f ts o = boxed_as o (cut_to (largest ts) (with_normal_texts f))

-- the subset over all the names, with normalized texts and this box, cut to the largest of the counts
abbrev pub rejoined : FontValue → List Truncated → Option Box → FontValue
rejoined f ts o = boxed_as o (cut_to (largest ts) (with_normal_texts (subset profile f (names_of_all ts))))

-- No glyph of a truncated subset executes a Subr that its font lacks and another has. Normalized, they are subsets of one font; in every order and grouping
-- they merge to the subset over all the names, cut to the largest of the counts and with normalized texts and one box, and to nothing else; each kept glyph
-- draws in it as in the font.
pub record Rejoins (f : FontValue) (ts : List Truncated) (o : Option Box) : Type 0 where
  pub shared : IsFont (shared_font f ts o)
  pub lacks : first_lack (normalized_shells (truncated_fonts ts)) ≡ None
  pub subsets : normalized (truncated_fonts ts) ≡ map (subset profile (shared_font f ts o)) (truncated_sets ts)
  pub merges : (t : Grouping FontValue) → IsPermutation (normalized (truncated_fonts ts)) (leaves t) → MergesTo t (rejoined f ts o)
  pub draws : (n : List ℕ) → sets.contains (keep profile f (names_of_all ts)) n ≡ true → DrawsAlike f (rejoined f ts o) n

-- one or more truncated subsets of one font rejoin
abbrev pub TruncatedSubsetsRejoin : Type 0
TruncatedSubsetsRejoin = (f : FontValue) → IsFont f → (t : Truncated) (ts : List Truncated) → AllByRecursion (IsTruncated f) (t ∷ ts) →
    (o : Option Box) → GetBox f (t ∷ ts) o → Rejoins f (t ∷ ts) o

-- ---- fonts that merge

-- Fonts that merge in some order and grouping lack nothing, are normalized by their texts alone, and then merge in the same order and grouping to what they
-- merged to, with normalized texts.
abbrev pub MergingFontsAreNormal : Type 0
MergingFontsAreNormal = (t : Grouping FontValue) (j : FontValue) → Merges profile t j →
    (first_lack (normalized_shells (leaves t)) ≡ None) × (normalized (leaves t) ≡ map with_normal_texts (leaves t))
    × Merges profile (map_grouping with_normal_texts t) (with_normal_texts j)
