-- The laws of subsets and joins of fonts, each the contract of a function in `laws`.
use Rattle.std.specs.Prelude.{◌≡◌, ◌↔◌, ◌≤◌, ℕ, true, false, List, [], ◌∷◌, Some, None, IsPermutation}
use Rattle.t1_run.specs.{Run.{direct, direct3, exec}, Drawings.{draw, draw3}}
use Rattle.t1_join.specs.Groupings.{Grouping, EachLeaf, leaves, map_grouping, one, from_left}
use Rattle.t1_font.specs.{FontValue.{FontValue, weight}, FontModel.{subr_at}, IsFont.{IsFont}, Joins.{join_parts}}
use Rattle.t1_algebra.specs.{Interpreter.{Interpreter, Names}, Keep.{IsOf, has, keep, kept, subset, Closed}, Alike.{DrawsAlike}}
use Rattle.t1_algebra.specs.States.{Compatible, Join, KeepsLimits, joined_option, joined_font, subr_state, name_state, code_state, is_sought}
use Rattle.t1_algebra.specs.{StateTables.{states_of, FontStatesAgree, FontStatesJoin}, Conflicts.{conflict, conflicts}, Searches.{first_of}, JoinedEntries.{EntriesJoin}}
use Rattle.t1_algebra.specs.Groupings.{union_all, Merges, folded, EachPair}
use Rattle.std.specs.FinSet as sets
use Rattle.std.specs.FinMap as maps

-- each name of a is a name of b
abbrev pub Inside : Names → Names → Type 0
Inside a b = (n : List ℕ) → sets.contains a n ≡ true → sets.contains b n ≡ true

-- calls answer the same of a glyph in j as in f: what its charstring does by itself and what it draws, where hints are replaced and where they are kept, and
-- what it executes, over what each font shows to an interpreter
pub record AnswersAlike (f j : FontValue) (n : List ℕ) : Type 0 where
  pub charstring : maps.get j.glyphs n ≡ maps.get f.glyphs n
  pub answer : (c : List ℕ) → maps.get f.glyphs n ≡ Some c → direct (subr_at j) c ≡ direct (subr_at f) c
  pub answer3 : (c : List ℕ) → maps.get f.glyphs n ≡ Some c → direct3 (subr_at j) c ≡ direct3 (subr_at f) c
  pub executes : (c : List ℕ) → maps.get f.glyphs n ≡ Some c → exec (subr_at j) c ≡ exec (subr_at f) c
  pub draws : draw (subr_at j) (maps.get j.glyphs) n ≡ draw (subr_at f) (maps.get f.glyphs) n
  pub draws3 : draw3 (subr_at j) (maps.get j.glyphs) n ≡ draw3 (subr_at f) (maps.get f.glyphs) n

-- of a glyph that draws alike in two fonts, calls answer alike
abbrev pub CallsDrawAlike : Type 0
CallsDrawAlike = (f j : FontValue) → IsFont f → IsFont j → (n : List ℕ) → DrawsAlike f j n → AnswersAlike f j n

module _ {O : Type 0} (m : Interpreter O) where
  -- ---- what is kept

  -- what is kept is closed, and lies within each closed set of the font's names
  abbrev pub KeepIsLeast : Type 0
  KeepIsLeast = (f : FontValue) → IsFont f → (a : Names) → IsOf f a →
      IsOf f (keep m f a) × Closed m f a (keep m f a) × ((s : Names) → IsOf f s → Closed m f a s → Inside (keep m f a) s)

  -- a larger set of names keeps no less
  abbrev pub KeepIsMonotone : Type 0
  KeepIsMonotone = (f : FontValue) (a b : Names) → Inside a b →
      Inside (keep m f a) (keep m f b) × ((i : ℕ) → sets.contains (kept m f a) i ≡ true → sets.contains (kept m f b) i ≡ true)

  -- two sets of names keep together what each of them keeps
  abbrev pub Distribution : Type 0
  Distribution = (f : FontValue) → IsFont f → (a b : Names) → IsOf f a → IsOf f b →
      (keep m f (sets.union a b) ≡ sets.union (keep m f a) (keep m f b)) × (kept m f (sets.union a b) ≡ sets.union (kept m f a) (kept m f b))

  -- ---- subsets

  -- a subset of a font is a font and weighs no more
  abbrev pub SubsetIsFont : Type 0
  SubsetIsFont = (f : FontValue) → IsFont f → (a : Names) → IsOf f a → IsFont (subset m f a) × (weight (subset m f a) ≤ weight f)

  -- a subset of a subset is the font's own subset; over the same names it is the subset itself
  abbrev pub SubsetOfSubset : Type 0
  SubsetOfSubset = (f : FontValue) → IsFont f → (a : Names) → IsOf f a →
      ((b : Names) → IsOf (subset m f a) b → subset m (subset m f a) b ≡ subset m f b) × (subset m (subset m f a) a ≡ subset m f a)

  -- the state of a Subr that is not kept is the bottom, and a name that the subset seeks and lacks is lacking in the font
  abbrev pub Bottom : Type 0
  Bottom = (f : FontValue) → IsFont f → (a : Names) → IsOf f a →
      ((i : ℕ) → sets.contains (kept m f a) i ≡ false → subr_state m (subset m f a) i ≡ None)
      × ((n : List ℕ) → has (subset m f a) n ≡ false → is_sought m (subset m f a) n ≡ true → has f n ≡ false)

  -- a kept glyph runs and draws in a subset as it does in the font
  abbrev pub SubsetsDraw : Type 0
  SubsetsDraw = (f : FontValue) → IsFont f → (a : Names) → IsOf f a → (n : List ℕ) → sets.contains (keep m f a) n ≡ true → DrawsAlike f (subset m f a) n

  -- two subsets of a font join, and in either order their join is the subset over both sets
  abbrev pub TwoSubsets : Type 0
  TwoSubsets = (f : FontValue) → IsFont f → (a b : Names) → IsOf f a → IsOf f b →
      Join m (subset m f a) (subset m f b) × (joined_font m (subset m f a) (subset m f b) ≡ subset m f (sets.union a b))
      × Join m (subset m f b) (subset m f a) × (joined_font m (subset m f b) (subset m f a) ≡ subset m f (sets.union a b))

  -- the subsets over any list of sets merge in any order and grouping to the subset over all the sets
  abbrev pub ManySubsets : Type 0
  ManySubsets = (f : FontValue) → IsFont f → (all : List Names) (t : Grouping Names) → IsPermutation all (leaves t) → EachLeaf (IsOf f) t →
      Merges m (map_grouping (subset m f) t) (subset m f (union_all all))

  -- ---- fonts from anywhere

  -- a join is a font
  abbrev pub JoinedIsFont : Type 0
  JoinedIsFont = (f g : FontValue) → IsFont f → IsFont g → Join m f g → IsFont (joined_font m f g)

  -- fonts join in both orders, to the same font
  abbrev pub JoinIsSymmetric : Type 0
  JoinIsSymmetric = (f g : FontValue) → Join m f g → Join m g f × (joined_font m f g ≡ joined_font m g f)

  -- a font joins with itself, to itself
  abbrev pub JoinIsIdempotent : Type 0
  JoinIsIdempotent = (f : FontValue) → IsFont f → Join m f f × (joined_font m f f ≡ f)

  -- the states of a join are the joined states
  abbrev pub StatesOfJoin : Type 0
  StatesOfJoin = (f g : FontValue) → Join m f g →
      FontStatesJoin (states_of m f) (states_of m g) (states_of m (joined_font m f g))
      × ((i : ℕ) → subr_state m (joined_font m f g) i ≡ joined_option (subr_state m f i) (subr_state m g i))
      × ((n : List ℕ) → name_state m (joined_font m f g) n ≡ joined_option (name_state m f n) (name_state m g n))
      × ((c : ℕ) → code_state (joined_font m f g).encoding c ≡ joined_option (code_state f.encoding c) (code_state g.encoding c))

  -- each glyph of either font runs and draws in a join as it did
  abbrev pub JoinsDraw : Type 0
  JoinsDraw = (f g : FontValue) → Join m f g →
      ((n : List ℕ) → has f n ≡ true → DrawsAlike f (joined_font m f g) n) × ((n : List ℕ) → has g n ≡ true → DrawsAlike g (joined_font m f g) n)

  -- fonts that merge in one order and grouping merge in every other, to the same font and to no other
  abbrev pub AnyOrder : Type 0
  AnyOrder = (s t : Grouping FontValue) → IsPermutation (leaves s) (leaves t) → EachLeaf IsFont s → (j : FontValue) → Merges m s j →
      IsFont j × Merges m t j × ((k : FontValue) → Merges m t k → k ≡ j)

  -- a list of fonts merges from left to right exactly if the states of each two of them join and the font of all is within the limits
  abbrev pub AcceptedByPairs : Type 0
  AcceptedByPairs = (f : FontValue) (fs : List FontValue) → EachLeaf IsFont (from_left (one f) fs) →
      (EachPair m (f ∷ fs) → KeepsLimits (folded m f fs) → Merges m (from_left (one f) fs) (folded m f fs))
      × ((j : FontValue) → Merges m (from_left (one f) fs) j → EachPair m (f ∷ fs) × (folded m f fs ≡ j) × KeepsLimits j)

  -- fonts join exactly if their states agree
  abbrev pub JoinWhereStatesAgree : Type 0
  JoinWhereStatesAgree = (f g : FontValue) → IsFont f → FontStatesAgree (states_of m f) (states_of m g) ↔ Join m f g

  -- two fonts have no conflict exactly if they join
  abbrev pub NoConflictIsJoin : Type 0
  NoConflictIsJoin = (f g : FontValue) → (conflict m f g ≡ None) ↔ Join m f g

  -- two fonts have the same lowest conflict in both orders
  abbrev pub ConflictIsSymmetric : Type 0
  ConflictIsSymmetric = (f g : FontValue) → conflict m f g ≡ conflict m g f

  -- two fonts have no conflicts exactly if they join, and otherwise the lowest is the first of all; in both orders all are the same
  abbrev pub ConflictsAreAll : Type 0
  ConflictsAreAll =
      (f g : FontValue) → ((conflicts m f g ≡ []) ↔ Join m f g) × (conflict m f g ≡ first_of (conflicts m f g)) × (conflicts m f g ≡ conflicts m g f)

  -- if the states of two fonts join, their join has the entries of both
  abbrev pub JoinHasEntries : Type 0
  JoinHasEntries = (f g : FontValue) → Compatible m f g → EntriesJoin f g × (joined_font m f g ≡ join_parts f g)
