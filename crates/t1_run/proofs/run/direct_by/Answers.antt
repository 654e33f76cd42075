use Rattle.t1_run.{specs.Run.{run_glyph}, proofs.Endings.{answered, answered_within}}
use Rattle.t1_run.proofs.run.direct_by.Goals as goal

pub returns-clause-answer : goal.returns-clause-answer
returns-clause-answer g c =
    answered (run_glyph (g.S.Subroutines.subrs c.args.subrs.now) c.args.hints c.args.charstring.now)
    c.in_ok-halt.halt _ _ _ c.new-marks.ensures.items _ _ c.in_ok-halt.ensures.runs _ c.answer_of.ensures

pub returns-clause-within : goal.returns-clause-within
returns-clause-within g c =
    answered_within (run_glyph (g.S.Subroutines.subrs c.args.subrs.now) c.args.hints c.args.charstring.now)
    c.in_ok-halt.halt _ _ _ c.new-marks.ensures.items _ _ c.in_ok-halt.ensures.runs _ c.answer_of.ensures
