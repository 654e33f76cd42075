-- The references and the states of two fonts.
use Rattle.std.specs.Prelude.{◌≡◌, ℕ, true, List, None}
use Rattle.t1_font.specs.{FontValue.{FontValue}, IsFont.{IsFont}}
use Rattle.t1_algebra.specs.{Profile.{profile}, StateTables.{StatesValue, states_of}, Conflicts.{wanted_by, used_by, glyphs_of_both}, Searches.{smallest}}
use Rattle.t1_subset.specs.{declared.references.References.{References}, References.{user_from, seeker_from}}
use Rattle.std.specs.FinMap as maps

-- the smallest users and seekers in the list are the smallest of both fonts
pub record AreReferences (cs : List References) (f g : FontValue) : Type 0 where
  pub users : (i : ℕ) → maps.contains_key f.subrs i ≡ true → maps.contains_key g.subrs i ≡ true →
      user_from None cs i ≡ smallest (used_by profile f g i) (glyphs_of_both f g)
  pub seekers : (p : List ℕ) → seeker_from None cs p ≡ smallest (wanted_by profile f g p) (glyphs_of_both f g)

-- s and t are the states of two fonts
pub record AreStatesOf (s t : StatesValue) (f g : FontValue) : Type 0 where
  pub own_font : IsFont f
  pub other_font : IsFont g
  pub own : s ≡ states_of profile f
  pub other : t ≡ states_of profile g
