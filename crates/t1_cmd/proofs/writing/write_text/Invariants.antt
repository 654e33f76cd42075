use Rattle.std.{proofs.Common.{◌≡◌, ◌≤◌, ◌-◌, length, take}, specs.Io.KnownBytes.{Appends}}
use Rattle.t1_cmd.specs.Count.{failed_of, inner_of}
use Rattle.t1_cmd.proofs.writing.write_text.Given as goal

abbrev pub invariant-loop-at : goal.invariant-loop-at
invariant-loop-at g l = (l.at ≤ length l.text)
    × Appends (g.W.Write.contents (inner_of l.initial.writer)) (g.W.Write.contents (inner_of l.writer)) (take l.at l.text)
    × (failed_of l.writer ≡ failed_of l.initial.writer)

abbrev pub decreases-loop-at : goal.decreases-loop-at
decreases-loop-at g l = length l.text - l.at
