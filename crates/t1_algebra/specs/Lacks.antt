-- Glyphs that execute a Subr that their font lacks and that another font of a list has. A stub there would draw something else, without a word.
use Rattle.std.specs.{Prelude.{ℕ, zero, suc, Bool, not, cond, ◌&&◌, List, [], ◌∷◌, Option, None}, List.{list_any, find}, Option.{option_map}}
use Rattle.t1_font.specs.FontValue.{FontValue, declared_count, names_in}
use Rattle.t1_algebra.specs.{Profile.{profile}, Searches.{found}, States.{executes}}
use Rattle.std.specs.FinMap as maps

-- an index, and a glyph that executes it
abbrev pub Lack : Type 0
Lack = ℕ × List ℕ

-- the smallest glyph of the font that executes the index
abbrev pub user_of : FontValue → ℕ → Option (List ℕ)
user_of f i = find (λ n. executes profile f n i) (names_in f.glyphs)

-- the value at the smallest number below n that has one
abbrev pub first_below : {X : Type 0} → (ℕ → Option X) → ℕ → Option X
first_below value zero = None
first_below value (suc n) = found (λ x. x) (first_below value n) (value n)

module _ (fs : List FontValue) where
  -- one of the fonts has a Subr at the index
  abbrev pub is_had : ℕ → Bool
  is_had i = list_any (λ g. maps.contains_key g.subrs i) fs

  -- the index, with the smallest glyph of a font that executes it, if the font has no Subr there and one of the fonts has
  abbrev pub lack_at : FontValue → ℕ → Option Lack
  lack_at f i = cond (not (maps.contains_key f.subrs i) && is_had i) (option_map (λ n. (i, n)) (user_of f i)) None

  -- the smallest such index that a font declares
  abbrev pub lack_in : FontValue → Option Lack
  lack_in f = first_below (lack_at f) (declared_count f.shell.subrs)

  -- that of the first of some fonts that has one
  abbrev pub lack_among : List FontValue → Option Lack
  lack_among [] = None
  lack_among (g ∷ gs) = found (λ l. l) (lack_in g) (lack_among gs)

-- the first font of a list that has a glyph that executes a Subr that the font lacks and another has, by its smallest such index and the smallest such glyph
abbrev pub first_lack : List FontValue → Option Lack
first_lack fs = lack_among fs fs
