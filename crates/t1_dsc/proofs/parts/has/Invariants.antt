use Rattle.std.proofs.Common.{◌≡◌, map, drop}
use Rattle.t1_dsc.specs.{Parts.{has}, Views.{line_view}}
use Rattle.t1_dsc.proofs.parts.has.Given as goal

abbrev pub invariant-lines : goal.invariant-lines
invariant-lines l = has l.role (map line_view (drop l.line-index l.lines)) ≡ has l.role (map line_view l.lines)
