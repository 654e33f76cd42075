use Rattle.t1_text.proofs.Untested.{untested_twice, untested_starts}
use Rattle.t1_text.proofs.laws.untested_twice.Goals as goal

pub returns-clause-head : goal.returns-clause-head
returns-clause-head c = untested_twice

pub returns-clause-starts : goal.returns-clause-starts
returns-clause-starts c = untested_starts
