use Rattle.std.proofs.lemmas.Result.{IfOk-weaker}
use Rattle.t1_run.{specs.Run.{run_glyph}, proofs.Endings.{named, told_so}}
use Rattle.t1_run.proofs.unmarked.halt_of.Goals as goal

pub returns-clause-parts : goal.returns-clause-parts
returns-clause-parts g c =
    IfOk-weaker c.run.result _ _
    (λ r runs. named (run_glyph (g.S.Subroutines.subrs c.args.subrs.now) c.args.hints c.args.charstring.now) r.0 r.1 _ _ _ runs) c.run.ensures.runs

pub returns-clause-told : goal.returns-clause-told
returns-clause-told g c =
    IfOk-weaker c.run.result _ _
    (λ r runs. told_so (run_glyph (g.S.Subroutines.subrs c.args.subrs.now) c.args.hints c.args.charstring.now) r.0 r.1 _ _ _ runs) c.run.ensures.runs
