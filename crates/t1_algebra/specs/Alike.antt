-- What it means that a glyph of one font is the same in another.
use Rattle.std.specs.Prelude.{◌≡◌, ℕ, List, Some}
use Rattle.t1_run.specs.{Run.{direct, direct3, exec}, Drawings.{draw, draw3}}
use Rattle.t1_font.specs.FontValue.{FontValue}
use Rattle.std.specs.FinMap as maps

-- a glyph of f is the same in j, where hints are replaced and where they are kept: its charstring, its runs and the Subrs that they execute, and its drawings
pub record DrawsAlike (f j : FontValue) (n : List ℕ) : Type 0 where
  pub charstring : maps.get j.glyphs n ≡ maps.get f.glyphs n
  pub answer : (c : List ℕ) → maps.get f.glyphs n ≡ Some c → direct (maps.get j.subrs) c ≡ direct (maps.get f.subrs) c
  pub answer3 : (c : List ℕ) → maps.get f.glyphs n ≡ Some c → direct3 (maps.get j.subrs) c ≡ direct3 (maps.get f.subrs) c
  pub executes : (c : List ℕ) → maps.get f.glyphs n ≡ Some c → exec (maps.get j.subrs) c ≡ exec (maps.get f.subrs) c
  pub draws : draw (maps.get j.subrs) (maps.get j.glyphs) n ≡ draw (maps.get f.subrs) (maps.get f.glyphs) n
  pub draws3 : draw3 (maps.get j.subrs) (maps.get j.glyphs) n ≡ draw3 (maps.get f.subrs) (maps.get f.glyphs) n
