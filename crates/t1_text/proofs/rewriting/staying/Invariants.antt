use Rattle.std.proofs.Common.{◌≡◌, ◌+◌, length}
use Rattle.t1_text.specs.Squeezing.{staying}
use Rattle.t1_text.proofs.rewriting.staying.Given as goal

abbrev pub invariant-bytes : goal.invariant-bytes
invariant-bytes l = (l.count + staying l.rest ≡ staying l.text) × (l.count + length l.rest ≡ length l.text)

abbrev pub decreases-bytes : goal.decreases-bytes
decreases-bytes l = length l.rest
