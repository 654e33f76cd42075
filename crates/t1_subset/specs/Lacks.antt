-- What the search for a lacking Subr says in code.
use Rattle.std.specs.{Prelude.{Bool, List}, List.{list_all}}
use Rattle.t1_font.specs.FontValue.{FontValue}
use Rattle.t1_algebra.specs.{Interpreter.{same_bytes}, Lacks.{Lack}}
use Rattle.t1_subset.specs.declared.lacks.Lack.{Lack as LackInCode}
use Rattle.std.specs.FinMap as maps

-- what it says
abbrev pub lack_view : LackInCode → Lack
lack_view l = (l.index, l.glyph.now)

-- all fonts have Subrs at the indices at which the first has them
abbrev pub have_same_subrs : FontValue → List FontValue → Bool
have_same_subrs f fs = list_all (λ g. same_bytes (maps.keys f.subrs) (maps.keys g.subrs)) fs
