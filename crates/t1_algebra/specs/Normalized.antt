-- What glyphs draw in fonts that are normalized.
use Rattle.std.specs.{Prelude.{◌≡◌, ℕ, List, [], ◌∷◌, Some, None}, List.{AllByRecursion}}
use Rattle.t1_run.specs.{Run.{Subrs, direct, direct3, exec}, Drawings.{draw, draw3}, Growth.{NoFault, IsDrawn}}
use Rattle.t1_font.specs.{FontValue.{FontValue}, FontModel.{subr_at}, Normalizing.{normal, filled, indices_of_all, normalized_shells, normalized}, Renewing.{Renewed}}
use Rattle.t1_algebra.specs.{Alike.{DrawsAlike}, Lacks.{lack_in, first_lack}, Merges.{ComesTo}}
use Rattle.std.specs.FinMap as maps

-- A glyph of f has the same charstring in j, and what runs in f without a fault or is drawn in f runs and draws the same in j, by each answer to hint
-- replacement by itself; `subrs` says which Subrs a font shows.
pub record StaysDrawn (subrs : FontValue → Subrs) (f j : FontValue) (n : List ℕ) : Type 0 where
  pub charstring : maps.get j.glyphs n ≡ maps.get f.glyphs n
  pub answer : (c : List ℕ) → maps.get f.glyphs n ≡ Some c → NoFault (direct (subrs f) c) → direct (subrs j) c ≡ direct (subrs f) c
  pub answer3 : (c : List ℕ) → maps.get f.glyphs n ≡ Some c → NoFault (direct3 (subrs f) c) → direct3 (subrs j) c ≡ direct3 (subrs f) c
  pub executes : (c : List ℕ) → maps.get f.glyphs n ≡ Some c → NoFault (direct (subrs f) c) → NoFault (direct3 (subrs f) c) →
      exec (subrs j) c ≡ exec (subrs f) c
  pub draws : IsDrawn (draw (subrs f) (maps.get f.glyphs) n) → draw (subrs j) (maps.get j.glyphs) n ≡ draw (subrs f) (maps.get f.glyphs) n
  pub draws3 : IsDrawn (draw3 (subrs f) (maps.get f.glyphs) n) → draw3 (subrs j) (maps.get j.glyphs) n ≡ draw3 (subrs f) (maps.get f.glyphs) n

-- the Subrs of a font as its map
abbrev pub map_subrs : FontValue → Subrs
map_subrs f = maps.get f.subrs

-- each glyph of f stays drawn in j, both over the maps of the fonts and as calls see them
abbrev pub AllStayDrawn : FontValue → FontValue → Type 0
AllStayDrawn f j = (n : List ℕ) → StaysDrawn map_subrs f j n × StaysDrawn subr_at f j n

-- P holds of each element of a list and the element at the same place in another list of the same length
abbrev pub EachBeside : {X Y : Type 0} → (X → Y → Type 0) → List X → List Y → Type 0
EachBeside P [] [] = Unit {0}
EachBeside P (x ∷ xs) (y ∷ ys) = P x y × EachBeside P xs ys
EachBeside P [] (y ∷ ys) = ⊥
EachBeside P (x ∷ xs) [] = ⊥

-- glyphs stay drawn when a font's texts are normalized, when it declares more Subrs and gets stubs for some that it lacks, and when the fonts of a list
-- are normalized
pub record NormalizedDraw : Type 0 where
  pub one : (indices : List ℕ) (count : ℕ) (f : FontValue) → AllStayDrawn f (filled indices (normal count f))
  pub all : (fs : List FontValue) → EachBeside AllStayDrawn fs (normalized fs)

-- each glyph of f runs and draws in g as it did, its faults included
abbrev pub AllDrawAlike : FontValue → FontValue → Type 0
AllDrawAlike f g = (n : List ℕ) → DrawsAlike f g n

-- Where no glyph of a font executes a Subr that the font lacks and another has, each glyph draws as it did when the font gets stubs, faults included; so it is
-- with all fonts of a list that are normalized, where none of them lacks anything.
pub record UnlackingDraw : Type 0 where
  pub one : (fs : List FontValue) (f : FontValue) → lack_in fs f ≡ None → AllDrawAlike f (filled (indices_of_all fs) f)
  pub all : (fs : List FontValue) → first_lack (normalized_shells fs) ≡ None → EachBeside AllDrawAlike fs (normalized fs)

-- the kept texts of each font of a list are renewed where the list is normalized
abbrev pub NormalizedRenewed : Type 0
NormalizedRenewed = (fs : List FontValue) → EachBeside (λ f g. Renewed f.shell g.shell) fs (normalized fs)

-- what fonts come to has the shell of each of them
abbrev pub ShellsStay : Type 0
ShellsStay = (fs : List FontValue) (j : FontValue) → ComesTo fs j → AllByRecursion (λ f. f.shell ≡ j.shell) fs
