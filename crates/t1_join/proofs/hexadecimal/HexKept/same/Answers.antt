use Rattle.t1_join.proofs.Hexadecimals.{same_result}
use Rattle.t1_join.proofs.hexadecimal.HexKept.same.Goals as goal

pub returns-else-eq : goal.returns-else-eq
returns-else-eq c = same_result c.self.inside.digits.now c.other.inside.digits.now c.args.self.now c.args.other.now
    c.eq_ignore_ascii_case.result c.self.view_is c.other.view_is c.self.invariant c.other.invariant c.eq_ignore_ascii_case.ensures.test
