-- A font without its test has the glyphs, Subrs and codes that it had, so it runs, draws, is cut and merges as before.
use Rattle.std.proofs.Common.{arith, refl, ◌∙◌, ap}
use Rattle.t1_join.specs.Groupings.{one, two}
use Rattle.t1_font.specs.FontValue.{FontValue}
use Rattle.t1_font.specs.UntestedFonts.{untested_shell, untested_font}
use Rattle.t1_text.proofs.Untested.{untested_fits}
use Rattle.t1_algebra.{specs.{States.{Compatible, KeepsLimits, joined_font}, Untested.{UntestedDraws, UntestedSubsets, UntestedJoins, UntestedGroupings}}, proofs.Words.{Interpreter}}

-- each glyph runs and draws as before
pub untested_draws : UntestedDraws
untested_draws f n = (
  record { charstring = refl; answer = λ c is. refl; answer3 = λ c is. refl; executes = λ c is. refl; draws = refl; draws3 = refl },
  record { charstring = refl; answer = λ c is. refl; answer3 = λ c is. refl; executes = λ c is. refl; draws = refl; draws3 = refl },
)

-- a font without its test keeps the limits that it kept
untested_within : (f : FontValue) → KeepsLimits f → KeepsLimits (untested_font f)
untested_within f w = record { weight = omega (arith, (untested_fits f.shell.head).short, w.weight); glyphs = w.glyphs }

module _ {O : Type 0} (m : Interpreter O) where
  -- the same names and Subrs are kept
  pub untested_subsets : UntestedSubsets m
  untested_subsets f a = refl

  -- the states are the same, and the shells stay equal
  untested_agree : (f g : FontValue) → Compatible m f g → Compatible m (untested_font f) (untested_font g)
  untested_agree f g c =
      record { shells = ap untested_shell c.shells; present = c.present; kinds = c.kinds; subrs = c.subrs; names = c.names; codes = c.codes }

  -- so fonts join as before
  pub untested_joins : UntestedJoins m
  untested_joins f g j = (record { states = untested_agree f g j.states; within = untested_within (joined_font m f g) j.within }, refl)

  -- and merge as before, in each order and grouping
  pub untested_groupings : UntestedGroupings m
  untested_groupings (one f) j is = ap untested_font is
  untested_groupings (two s t) j (p, q, left, right, joins) =
      let both = untested_joins p q joins.0 in
      (untested_font p, untested_font q, untested_groupings s p left, untested_groupings t q right, (both.0, both.1 ∙ ap untested_font joins.1))
