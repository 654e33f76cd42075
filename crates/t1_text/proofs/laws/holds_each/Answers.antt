use Rattle.t1_text.proofs.BoxOrder.{holds_each, held_by_all}
use Rattle.t1_text.proofs.laws.holds_each.Goals as goal

pub returns-clause-each : goal.returns-clause-each
returns-clause-each c = holds_each

pub returns-clause-least : goal.returns-clause-least
returns-clause-least c = held_by_all
