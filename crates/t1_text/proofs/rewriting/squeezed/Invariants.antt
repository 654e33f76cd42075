use Rattle.std.proofs.Common.{length}
use Rattle.t1_text.proofs.RewritingLemmas.{SqueezedSoFar}
use Rattle.t1_text.proofs.rewriting.squeezed.Given as goal

abbrev pub invariant-runs : goal.invariant-runs
invariant-runs l = SqueezedSoFar l.text l.new.items l.rest

abbrev pub decreases-runs : goal.decreases-runs
decreases-runs l = length l.rest
