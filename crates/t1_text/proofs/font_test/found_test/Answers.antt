use Rattle.std.proofs.Common.{List, ℕ, ◌++◌, length, Some, arith, sym, ap, ◌∙◌}
use Rattle.t1_text.proofs.FontTests.{met_there, found_there, passed_there, nowhere_there}
use Rattle.t1_text.proofs.font_test.found_test.Goals as goal

pub returns-then-breaks_at : goal.returns-then-breaks_at
returns-then-breaks_at c =
    let head = c.args.head.now in
    let behind = c.in-Some.behind.now in
    let m = met_there head c.tests.from c.in-Some.place behind c.tests.invariant.within c.in-Some.ensures.test in
    ap (λ (u : List ℕ). Some (length u, u ++ behind)) c.split_at.ensures.front
    ∙ found_there head c.tests.from c.in-Some.place behind c.tests.invariant.passed m (sym c.breaks_at.ensures ∙ c.if-breaks_at.true)

pub tests-preserved : goal.tests-preserved
tests-preserved c =
    let head = c.args.head.now in
    let behind = c.in-Some.behind.now in
    let m = met_there head c.tests.from c.in-Some.place behind c.tests.invariant.within c.in-Some.ensures.test in
    record {
      within = omega (arith, m.within);
      passed = passed_there head c.tests.from c.in-Some.place behind c.tests.invariant.passed m (sym c.breaks_at.ensures ∙ c.if-breaks_at.false);
    }

pub returns : goal.returns
returns c = nowhere_there c.args.head.now c.tests.from c.tests.invariant.passed c.in_default.ensures.test
