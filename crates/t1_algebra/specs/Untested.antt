-- Fonts without the test whether they were loaded before: what their glyphs draw, their subsets and their merges.
use Rattle.std.specs.Prelude.{◌≡◌, ℕ, List}
use Rattle.t1_join.specs.Groupings.{Grouping, map_grouping}
use Rattle.t1_font.specs.FontValue.{FontValue}
use Rattle.t1_font.specs.UntestedFonts.{untested_font}
use Rattle.t1_algebra.specs.{Interpreter.{Interpreter, Names}, Keep.{subset}, States.{Join, joined_font}, Groupings.{Merges}, Laws.{AnswersAlike}, Alike.{DrawsAlike}}

-- each glyph runs and draws the same in a font and in the font without its test, over the maps of both and as calls see them
abbrev pub UntestedDraws : Type 0
UntestedDraws = (f : FontValue) (n : List ℕ) → DrawsAlike f (untested_font f) n × AnswersAlike f (untested_font f) n

module _ {O : Type 0} (m : Interpreter O) where
  -- a subset without the test is the subset of the font without the test
  abbrev pub UntestedSubsets : Type 0
  UntestedSubsets = (f : FontValue) (a : Names) → untested_font (subset m f a) ≡ subset m (untested_font f) a

  -- fonts that join also join without their tests, and come to their join without its test
  abbrev pub UntestedJoins : Type 0
  UntestedJoins = (f g : FontValue) → Join m f g →
      Join m (untested_font f) (untested_font g) × (joined_font m (untested_font f) (untested_font g) ≡ untested_font (joined_font m f g))

  -- fonts that merge in some order and grouping also merge in it without their tests, to what they came to without its test
  abbrev pub UntestedGroupings : Type 0
  UntestedGroupings = (t : Grouping FontValue) (j : FontValue) → Merges m t j → Merges m (map_grouping untested_font t) (untested_font j)
