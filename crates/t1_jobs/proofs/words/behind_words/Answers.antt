use Rattle.std.proofs.Common.{refl, arith, length}
use Rattle.t1_jobs.proofs.WordLemmas.{walked_on, walked_through}
use Rattle.t1_jobs.proofs.words.behind_words.Goals as goal

pub words-init : goal.words-init
words-init c = (length c.args.text.now, omega arith, refl)

pub words-preserved : goal.words-preserved
words-preserved c = (walked_on c.args.text.now c.words.rest.now c.in-Some.behind.now c.words.invariant c.in-Some.ensures).0

pub returns : goal.returns
returns c = walked_through c.args.text.now c.words.rest.now c.words.invariant c.in_default.ensures

pub words-smaller : goal.words-smaller
words-smaller c = (walked_on c.args.text.now c.words.rest.now c.in-Some.behind.now c.words.invariant c.in-Some.ensures).1
