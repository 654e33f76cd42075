use Rattle.std.proofs.Common.{sym, ap, ◌∙◌}
use Rattle.t1_grammar.specs.Grammar.{first}
use Rattle.t1_text.specs.FontTest.{font_test}
use Rattle.t1_text.proofs.FontTests.{met}
use Rattle.t1_text.proofs.font_test.test_from.Goals as goal

pub returns-clause-within : goal.returns-clause-within
returns-clause-within c = (met c.args.head.now c.args.from ((c.in_ok-front.front.now, tt), c.in_ok-front.behind.now) c.requires
    (ap (first font_test).read (sym c.split_at.ensures.back) ∙ sym c.in_ok-front.ensures)).within
