use Rattle.std.proofs.Common.{length, ◌-◌}
use Rattle.t1_jobs.specs.Words.{Scanned}
use Rattle.t1_jobs.proofs.words.document_len.Given as goal

abbrev pub invariant-places : goal.invariant-places
invariant-places l = Scanned l.text l.at

abbrev pub decreases-places : goal.decreases-places
decreases-places l = length l.text - l.at
