use Rattle.t1_bytes.proofs.SpreadLines.{Spread}
use Rattle.t1_bytes.proofs.hexadecimal.spread_lines.Given as goal

abbrev pub invariant-lines : goal.invariant-lines
invariant-lines l = Spread l.initial.text l.from l.count l.lines l.left l.text

abbrev pub decreases-lines : goal.decreases-lines
decreases-lines l = l.left
