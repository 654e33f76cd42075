use Rattle.std.proofs.Common.{sym}
use Rattle.std.proofs.lemmas.Result.{IfOk-weaker, on_ok_weaker, IfErr-weaker}
use Rattle.t1_subset.proofs.Tokens.{no_glyph}
use Rattle.t1_subset.proofs.calls.run_of.Goals as goal

pub returns-in-Some-clause-components : goal.returns-in-Some-clause-components
returns-in-Some-clause-components c = IfOk-weaker c.run.result _ _ (λ names h. h c.args.name.now (sym c.in-Some.ensures)) c.run.ensures.components

pub returns-in-Some-clause-calls : goal.returns-in-Some-clause-calls
returns-in-Some-clause-calls c = on_ok_weaker c.run.result (λ h. h c.args.name.now (sym c.in-Some.ensures)) c.run.ensures.calls

pub returns-in-Some-clause-takes : goal.returns-in-Some-clause-takes
returns-in-Some-clause-takes c = on_ok_weaker c.run.result (λ h. h c.args.name.now (sym c.in-Some.ensures)) c.run.ensures.takes

pub returns-in-Some-clause-refused : goal.returns-in-Some-clause-refused
returns-in-Some-clause-refused c = IfErr-weaker c.run.result _ _ (λ e h is. h is c.args.name.now (sym c.in-Some.ensures)) c.run.ensures.refused

pub returns-in-None-clause-takes : goal.returns-in-None-clause-takes
returns-in-None-clause-takes c = no_glyph c.args.font.now c.args.name.now (sym c.in-None.ensures) c.args.budget.now.left
