use Rattle.std.proofs.Common.{refl}
use Rattle.t1_run.{specs.Run.{run_glyph}, proofs.Endings.{answered}}
use Rattle.t1_run.proofs.composed.VecMarkOutline.of.Goals as goal

pub returns-clause-ending : goal.returns-clause-ending
returns-clause-ending g c =
    answered (run_glyph (g.S.Subroutines.subrs c.args.subrs.now) c.args.hints c.args.charstring.now)
    c.in_ok-halt.halt _ _ _ c.new-marks.ensures.items _ _ c.in_ok-halt.ensures.runs _ refl
