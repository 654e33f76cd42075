-- Truncated subsets that have the font's own box.
use Rattle.std.specs.Prelude.{◌≡◌, ℕ, ◌≤◌, ◌<◌, true, List, map, None, IsPermutation}
use Rattle.t1_join.specs.Groupings.{Grouping, leaves}
use Rattle.t1_font.specs.{FontValue.{FontValue, declared_count}, IsFont.{IsFont}, Normalizing.{normalized_shells, normalized}}
use Rattle.t1_algebra.specs.{Keep.{keep, kept, subset, IsOf}, Profile.{profile}, Lacks.{first_lack}, Merges.{MergesTo}, Alike.{DrawsAlike}}
use Rattle.t1_algebra.specs.Rejoins.{cut_to, with_normal_texts, Truncated, truncated_fonts, truncated_sets, names_of_all, largest}
use Rattle.std.specs.FinMap as maps
use Rattle.std.specs.FinSet as sets

-- it is the subset of f over names of f, cut to its first Subrs, once the texts of both are normalized
pub record IsNormalCut (f : FontValue) (t : Truncated) : Type 0 where
  pub font : IsFont t.font
  pub names : IsOf f t.names
  pub same : with_normal_texts t.font ≡ with_normal_texts (cut_to t.count (subset profile f t.names))
  pub kept : (i : ℕ) → sets.contains (kept profile f t.names) i ≡ true → maps.contains_key f.subrs i ≡ true → i < t.count
  pub count : t.count ≤ declared_count f.shell.subrs

-- the font with normalized texts, cut to the largest of the counts
abbrev pub normal_shared : FontValue → List Truncated → FontValue
normal_shared f ts = cut_to (largest ts) (with_normal_texts f)

-- the subset over all the names, with normalized texts and cut to the largest of the counts
abbrev pub normal_rejoined : FontValue → List Truncated → FontValue
normal_rejoined f ts = cut_to (largest ts) (with_normal_texts (subset profile f (names_of_all ts)))

-- what is true of them
pub record NormalCutsRejoin (f : FontValue) (ts : List Truncated) : Type 0 where
  pub shared : IsFont (normal_shared f ts)
  pub lacks : first_lack (normalized_shells (truncated_fonts ts)) ≡ None
  pub subsets : normalized (truncated_fonts ts) ≡ map (subset profile (normal_shared f ts)) (truncated_sets ts)
  pub merges : (t : Grouping FontValue) → IsPermutation (normalized (truncated_fonts ts)) (leaves t) → MergesTo t (normal_rejoined f ts)
  pub draws : (n : List ℕ) → sets.contains (keep profile f (names_of_all ts)) n ≡ true → DrawsAlike f (normal_rejoined f ts) n
