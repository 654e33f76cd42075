-- Laws of fonts that have more than others: what ends without a fault stays as it is.
use Rattle.std.specs.Prelude.{◌≡◌, ℕ, List, Option, Some}
use Rattle.t1_run.specs.{declared.answer.Hints.{Hints}, State.{Ending, Failed}, Run.{Subrs, direct_by, direct, direct3, calls_of, exec}, Drawings.{Glyphs, Picture, Drawn, Undrawn, draw, draw3}}

-- All that f has is in g.
abbrev pub Extends : {K : Type 0} → (K → Option (List ℕ)) → (K → Option (List ℕ)) → Type 0
Extends {K = K} f g = (k : K) (c : List ℕ) → f k ≡ Some c → g k ≡ Some c

-- An ending that is no fault.
abbrev pub NoFault : Ending → Type 0
NoFault (Failed fault) = ⊥
NoFault _ = Unit {0}

-- A glyph is drawn.
abbrev pub IsDrawn : Picture → Type 0
IsDrawn (Drawn metrics parts) = Unit {0}
IsDrawn (Undrawn fault) = ⊥

-- A run that ends without a fault calls no Subr that is absent: where there are more, it ends the same, and its calls take the same indices, by either answer
-- to hint replacement by itself.
pub record RunsWithMore : Type 0 where
  pub answers : (f g : Subrs) (c : List ℕ) (hints : Hints) → Extends f g → NoFault (direct_by hints f c) → direct_by hints g c ≡ direct_by hints f c
  pub calls : (f g : Subrs) (c : List ℕ) (hints : Hints) → Extends f g → NoFault (direct_by hints f c) → calls_of hints g c ≡ calls_of hints f c
  pub executes : (f g : Subrs) (c : List ℕ) → Extends f g → NoFault (direct f c) → NoFault (direct3 f c) → exec g c ≡ exec f c

-- A glyph that is drawn is drawn the same where there are more Subrs and glyphs, by either answer by itself.
pub record DrawsWithMore : Type 0 where
  pub draws : (f g : Subrs) (f' g' : Glyphs) (name : List ℕ) → Extends f g → Extends f' g' → IsDrawn (draw f f' name) → draw g g' name ≡ draw f f' name
  pub draws3 : (f g : Subrs) (f' g' : Glyphs) (name : List ℕ) → Extends f g → Extends f' g' → IsDrawn (draw3 f f' name) → draw3 g g' name ≡ draw3 f f' name
