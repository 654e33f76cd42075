use Rattle.std.proofs.Common.{map, length}
use Rattle.t1_dsc.{specs.Views.{line_view}, proofs.Reading.{Reading}}
use Rattle.t1_dsc.proofs.lines.read_lines.Given as goal

abbrev pub invariant-lines : goal.invariant-lines
invariant-lines l = Reading l.text (map line_view l.lines.items) l.state l.rest

abbrev pub decreases-lines : goal.decreases-lines
decreases-lines l = length l.rest
