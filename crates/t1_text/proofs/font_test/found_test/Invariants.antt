use Rattle.std.proofs.Common.{◌≤◌, ◌-◌, length}
use Rattle.t1_grammar.specs.Places.{NoneBelow}
use Rattle.t1_text.specs.FontTest.{apart_test}
use Rattle.t1_text.proofs.FontTests.{padded}
use Rattle.t1_text.proofs.font_test.found_test.Given as goal

abbrev pub invariant-tests : goal.invariant-tests
invariant-tests l = record { within : l.from ≤ length l.head; passed : NoneBelow apart_test (padded l.head) l.from }

abbrev pub decreases-tests : goal.decreases-tests
decreases-tests l = length l.head - l.from
