-- The headline: what becomes of the written subsets of a font when they are read and merged.
use Rattle.std.specs.Prelude.{◌≡◌, ℕ, true, List, Ok, IsPermutation}
use Rattle.t1_bytes.specs.{declared.form.Form.{Form}, Laws.{AreBytes}}
use Rattle.t1_join.specs.Groupings.{Grouping, one, two, EachLeaf, leaves}
use Rattle.t1_font.specs.{FontValue.{FontValue}, Canon.{canon, Fits}, ReadFont.{read_font}, Spelling.{Spells}}
use Rattle.t1_algebra.specs.{Interpreter.{Names}, Keep.{keep, subset, IsOf}, Profile.{profile}, Alike.{DrawsAlike}, Groupings.{JoinTo, union_all}}
use Rattle.std.specs.FinSet as sets

-- How a font is made of a font's subsets: the file of the subset over some names is read; two fonts are merged; a font
-- on the way is written and read again.
pub data Making : Type 0 where
  Subset : Names → Form → Making
  Merge : Making → Making → Making
  Again : Form → Making → Making

-- the sets of names, in the order and grouping of the merges
abbrev pub grouped_sets : Making → Grouping Names
grouped_sets (Subset a form) = one a
grouped_sets (Merge s t) = two (grouped_sets s) (grouped_sets t)
grouped_sets (Again form s) = grouped_sets s

-- each file on the way can be told from a PFB: it is one, or the font's head doesn't begin with byte 128
abbrev pub FormsFit : FontValue → Making → Type 0
FormsFit f (Subset a form) = Fits form f
FormsFit f (Merge s t) = FormsFit f s × FormsFit f t
FormsFit f (Again form s) = Fits form f × FormsFit f s

-- what is made of the font f
abbrev pub Makes : FontValue → Making → FontValue → Type 0
Makes f (Subset a form) j = read_font (canon (subset profile f a) form) ≡ Ok j
Makes f (Merge s t) j = (p : FontValue) × (q : FontValue) × Makes f s p × Makes f t q × JoinTo profile p q j
Makes f (Again form s) j = (p : FontValue) × Makes f s p × (read_font (canon p form) ≡ Ok j)

-- A making succeeds and comes to the subset over some names: its bytes are that subset's, and each glyph that is kept
-- draws in it as in the font.
pub record ComesToSubset (f : FontValue) (m : Making) (a : Names) : Type 0 where
  pub succeeds : Makes f m (subset profile f a)
  pub bytes : (j : FontValue) (form : Form) → Makes f m j → canon j form ≡ canon (subset profile f a) form
  pub draws : (j : FontValue) (n : List ℕ) → Makes f m j → sets.contains (keep profile f a) n ≡ true → DrawsAlike f j n

-- For every file that spells a font, and every list of sets of its glyph names, reading the written subsets and merging
-- them, in every order and grouping, comes to the subset over all the names.
abbrev pub Headline : Type 0
Headline = (file : List ℕ) (f : FontValue) → AreBytes file → Spells file f →
    (all : List Names) (m : Making) → IsPermutation all (leaves (grouped_sets m)) → EachLeaf (IsOf f) (grouped_sets m) → FormsFit f m →
    ComesToSubset f m (union_all all)
