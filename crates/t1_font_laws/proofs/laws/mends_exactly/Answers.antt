use Rattle.t1_font.proofs.Mended.{needs_no_rule, tells_the_test}
use Rattle.t1_font_laws.proofs.laws.mends_exactly.Goals as goal

pub returns-clause-rules : goal.returns-clause-rules
returns-clause-rules c = needs_no_rule

pub returns-clause-test : goal.returns-clause-test
returns-clause-test c = tells_the_test
