use Rattle.std.proofs.Common.{◌++◌, ◌∙◌, ap, arith}
use Rattle.t1_subset.specs.declared.conflict.Conflict.{Conflict}
use Rattle.t1_cmd.{specs.Diffs.{conflict_line}, proofs.Lines.{one_line_more, all_lines}}
use Rattle.t1_cmd.proofs.diffs.conflict_lines.Goals as goal

pub conflicts-preserved : goal.conflicts-preserved
conflicts-preserved c =
    one_line_more conflict_line c.args.conflicts.now c.conflicts.conflict-index c.conflict-item.result c.conflicts.text.items c.push_conflict.new.out.items
    (omega arith) c.conflicts.invariant
    (c.in_ok-push_conflict.ensures ∙ ap (λ (e : Conflict). c.conflicts.text.items ++ conflict_line e) c.conflict-item.is)

pub returns : goal.returns
returns c = all_lines conflict_line c.args.conflicts.now c.conflicts.conflict-index c.conflicts.text.items (omega arith) c.conflicts.invariant
