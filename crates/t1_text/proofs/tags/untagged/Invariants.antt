use Rattle.std.proofs.Common.{length}
use Rattle.t1_text.proofs.TagLemmas.{Walked}
use Rattle.t1_text.proofs.tags.untagged.Given as goal

abbrev pub invariant-tags : goal.invariant-tags
invariant-tags l = Walked l.bytes l.rest

abbrev pub decreases-tags : goal.decreases-tags
decreases-tags l = length l.rest
