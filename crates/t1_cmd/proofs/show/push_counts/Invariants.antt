use Rattle.std.proofs.Common.{◌≡◌, ◌++◌, take}
use Rattle.t1_cmd.specs.DrawingText.{numbers}
use Rattle.t1_cmd.proofs.show.push_counts.Given as goal

abbrev pub invariant-loop-count : goal.invariant-loop-count
invariant-loop-count l = l.out.items ≡ l.initial.out.items ++ numbers (take l.count-index l.counts)
