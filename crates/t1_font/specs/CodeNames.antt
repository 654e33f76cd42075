-- The names of an Encoding's codes, while its table is read.
use Rattle.std.specs.{Prelude.{◌≡◌, ℕ, suc, ◌<◌, ◌≤◌, Bool, true, false, List, [], ◌∷◌, length, slice_index_or, if◌then◌else◌}, Borrow.{Bor}}
use Rattle.t1_font.specs.FontValue.{notdef}

-- the codes from one on that were named, each with its name
abbrev pub codes_named : ℕ → List (Bor (List ℕ)) → List Bool → List (ℕ × List ℕ)
codes_named c [] named = []
codes_named c (n ∷ names) [] = []
codes_named c (n ∷ names) (b ∷ named) = if b then (c, n.now) ∷ codes_named (suc c) names named else codes_named (suc c) names named

-- a name for each code, which is that of no glyph unless the code was named
pub record AreNames (names : List (Bor (List ℕ))) (named : List Bool) : Type 0 where
  pub names_all : length names ≡ 256
  pub named_all : length named ≡ 256
  pub unnamed : (k : ℕ) (n : Bor (List ℕ)) → k < 256 → slice_index_or named k false ≡ false → (slice_index_or names k n).now ≡ notdef

-- the codes from one up to another were marked
pub record Marked (old new : List Bool) (from to : ℕ) : Type 0 where
  pub count : length new ≡ length old
  pub here : (k : ℕ) → from ≤ k → k < to → k < length old → slice_index_or new k false ≡ true
  pub below : (k : ℕ) → k < from → slice_index_or new k false ≡ slice_index_or old k false
  pub above : (k : ℕ) → to ≤ k → slice_index_or new k false ≡ slice_index_or old k false
