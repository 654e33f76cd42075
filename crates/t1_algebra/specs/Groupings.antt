-- Merges in any order and grouping.
use Rattle.std.specs.{Prelude.{◌≡◌, List, [], ◌∷◌}, List.{AllByRecursion}}
use Rattle.t1_join.specs.Groupings.{Grouping, Gives}
use Rattle.t1_font.specs.FontValue.{FontValue}
use Rattle.t1_algebra.specs.{Interpreter.{Interpreter, Names}, States.{Join, Compatible, joined_font}}
use Rattle.std.specs.FinSet as sets

-- the union of all sets of a list
abbrev pub union_all : List Names → Names
union_all [] = sets.empty
union_all (a ∷ rest) = sets.union a (union_all rest)

module _ {O : Type 0} (m : Interpreter O) where
  -- two fonts join, and j is their join
  abbrev pub JoinTo : FontValue → FontValue → FontValue → Type 0
  JoinTo f g j = Join m f g × (joined_font m f g ≡ j)

  -- the merges of the fonts in this grouping come to j
  abbrev pub Merges : Grouping FontValue → FontValue → Type 0
  Merges = Gives JoinTo

  -- what the merges of fonts from left to right come to if they are accepted
  abbrev pub folded : FontValue → List FontValue → FontValue
  folded f [] = f
  folded f (g ∷ gs) = folded (joined_font m f g) gs

  -- the states of each two fonts of a list join
  abbrev pub EachPair : List FontValue → Type 0
  EachPair [] = Unit {0}
  EachPair (f ∷ fs) = AllByRecursion (Compatible m f) fs × EachPair fs
