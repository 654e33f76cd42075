-- What a drawing of a glyph is made of.
use Rattle.std.specs.Prelude.{List, ℕ, map, Option, option_map}
use Rattle.t1_font.specs.FontValue.{FontValue}
use Rattle.t1_algebra.specs.{Interpreter.{Interpreter}, Keep.{components}}
use Rattle.std.specs.FinMap as maps

-- a component's own outcome, if the font has the component
abbrev pub component_outcome : {O : Type 0} → Interpreter O → FontValue → List ℕ → Option O
component_outcome m f p = option_map (m.direct f.subrs) (maps.get f.glyphs p)

-- the outcome of a charstring, and the outcomes of its components
abbrev pub seen : {O : Type 0} → Interpreter O → FontValue → List ℕ → O × List (Option O)
seen m f c = (m.direct f.subrs c, map (component_outcome m f) (components m f.subrs c))

-- all that the drawing of a glyph depends on
abbrev pub drawing : {O : Type 0} → Interpreter O → FontValue → List ℕ → Option (O × List (Option O))
drawing m f n = option_map (seen m f) (maps.get f.glyphs n)
