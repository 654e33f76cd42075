use Rattle.std.proofs.Common.{sym, ◌∙◌}
use Rattle.t1_run.proofs.StandardNames.{from_run_on}
use Rattle.t1_run.proofs.standard.name_in.Goals as goal

-- src/standard.rt:148:13
pub returns-in-Some : goal.returns-in-Some
returns-in-Some c = sym (from_run_on c.args.runs.now c.loop-first.first-index _ c.args.code _ c.loop-first-test.true c.in-Some.ensures) ∙ c.loop-first.invariant

-- src/standard.rt:146:5
pub loop-first-preserved : goal.loop-first-preserved
loop-first-preserved c =
    sym (from_run_on c.args.runs.now c.loop-first.first-index _ c.args.code _ c.loop-first-test.true c.in_default.ensures) ∙ c.loop-first.invariant
