use Rattle.std.proofs.Common.{length}
use Rattle.t1_text.specs.Steps.{piece_of}
use Rattle.t1_text.proofs.RewritingLemmas.{Walked}
use Rattle.t1_text.proofs.rewriting.rewritten.Given as goal

abbrev pub invariant-pieces : goal.invariant-pieces
invariant-pieces l = Walked (piece_of l.step) l.text l.new.items l.rest

abbrev pub decreases-pieces : goal.decreases-pieces
decreases-pieces l = length l.rest
