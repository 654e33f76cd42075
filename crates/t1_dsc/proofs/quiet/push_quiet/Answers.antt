use Rattle.std.proofs.Common.{refl}
use Rattle.t1_dsc.{specs.{Joining.{quiet_line}, Views.{line_view}}, proofs.WriteLoops.{written_more, written_all}}
use Rattle.t1_dsc.proofs.quiet.push_quiet.Goals as goal

pub lines-init : goal.lines-init
lines-init c = refl

pub lines-preserved : goal.lines-preserved
lines-preserved c =
    written_more quiet_line line_view c.args.lines.now c.lines.line-index _ c.lines-test.true c.lines.out.items c.push_line.new.out.items _
    c.in_ok-push_line.ensures c.lines.invariant

pub returns : goal.returns
returns c = written_all quiet_line line_view c.args.lines.now c.lines.line-index c.lines-test.false c.lines.out.items _ c.lines.invariant
