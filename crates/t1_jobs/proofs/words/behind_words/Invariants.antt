use Rattle.std.proofs.Common.{length}
use Rattle.t1_jobs.proofs.WordLemmas.{Walked}
use Rattle.t1_jobs.proofs.words.behind_words.Given as goal

abbrev pub invariant-words : goal.invariant-words
invariant-words l = Walked l.text l.rest

abbrev pub decreases-words : goal.decreases-words
decreases-words l = length l.rest
