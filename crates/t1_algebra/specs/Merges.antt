-- What merges of fonts come to.
use Rattle.std.specs.{Prelude.{◌≡◌, ℕ, true, List, [], ◌∷◌}, List.{AllByRecursion}}
use Rattle.t1_join.specs.Groupings.{Grouping, one, from_left}
use Rattle.t1_font.specs.{FontValue.{FontValue}, IsFont.{IsFont}}
use Rattle.t1_algebra.specs.{Keep.{has}, Profile.{profile}, States.{KeepsLimits}, StateTables.{StatesValue, states_of}, Alike.{DrawsAlike}, Groupings.{folded, EachPair, Merges}}

-- each glyph of either font runs and draws in j as it did
abbrev pub DrawsBoth : FontValue → FontValue → FontValue → Type 0
DrawsBoth f g j = ((n : List ℕ) → has f n ≡ true → DrawsAlike f j n) × ((n : List ℕ) → has g n ≡ true → DrawsAlike g j n)

-- the fonts, merged from left to right, come to j
abbrev pub ComesTo : List FontValue → FontValue → Type 0
ComesTo [] j = ⊥
ComesTo (f ∷ fs) j = Merges profile (from_left (one f) fs) j

-- the fonts come to a font of these states
abbrev pub ComesToStates : List FontValue → StatesValue → Type 0
ComesToStates fs s = (j : FontValue) × ComesTo fs j × (s ≡ states_of profile j)

-- a font has these states
abbrev pub AreOfFont : StatesValue → Type 0
AreOfFont s = (f : FontValue) × IsFont f × (s ≡ states_of profile f)

-- each glyph of each of the fonts runs and draws in j as it did
abbrev pub DrawsAll : List FontValue → FontValue → Type 0
DrawsAll fs j = AllByRecursion (λ f. (n : List ℕ) → has f n ≡ true → DrawsAlike f j n) fs

-- there are fonts, the states of each two of them join, and the font of all is within the limits
abbrev pub AllJoin : List FontValue → Type 0
AllJoin [] = ⊥
AllJoin (f ∷ fs) = EachPair profile (f ∷ fs) × KeepsLimits (folded profile f fs)

-- this order and grouping of the fonts comes to j, and to no other font
abbrev pub MergesTo : Grouping FontValue → FontValue → Type 0
MergesTo t j = Merges profile t j × ((k : FontValue) → Merges profile t k → k ≡ j)

-- this order and grouping of the fonts comes to no font
abbrev pub MergesToNone : Grouping FontValue → Type 0
MergesToNone t = (k : FontValue) → ¬ Merges profile t k
