use Rattle.std.proofs.Common.{length}
use Rattle.t1_join.proofs.ReadLemmas.{IsReading}
use Rattle.t1_join.proofs.listing.read_in_turn.Given as goal

abbrev pub invariant-loop-front : goal.invariant-loop-front
invariant-loop-front l = IsReading l.text l.lines l.line l.rest

abbrev pub decreases-loop-front : goal.decreases-loop-front
decreases-loop-front l = length l.rest
