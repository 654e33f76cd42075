-- Widths of drawings.
use Rattle.std.specs.Prelude.{ℤ, Option, Some, None}
use Rattle.t1_run.specs.Drawings.{Picture, Drawn, Undrawn}

-- how far a drawing moves the pen to the right, if there is one
abbrev pub width_in : Picture → Option ℤ
width_in (Drawn m parts) = Some m.width.x
width_in (Undrawn fault) = None
