use Rattle.std.proofs.Common.{arith}
use Rattle.t1_cmd.{specs.Mends.{mend_line}, proofs.Lines.{one_line_more, all_lines}}
use Rattle.t1_cmd.proofs.mends.mend_lines.Goals as goal

pub mends-preserved : goal.mends-preserved
mends-preserved c =
    one_line_more mend_line c.args.mends.now c.mends.mend-index _ c.mends.text.items c.push_mend.new.out.items (omega arith)
    c.mends.invariant c.in_ok-push_mend.ensures

pub returns : goal.returns
returns c = all_lines mend_line c.args.mends.now c.mends.mend-index c.mends.text.items (omega arith) c.mends.invariant
