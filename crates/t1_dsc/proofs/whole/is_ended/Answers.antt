use Rattle.std.proofs.Common.{sym, ap, ◌∙◌}
use Rattle.t1_dsc.{specs.Joining.{is_ended}, proofs.Ends.{end_behind}}
use Rattle.t1_dsc.proofs.whole.is_ended.Goals as goal

pub returns-in-Some : goal.returns-in-Some
returns-in-Some c =
    c.is_line_end.ensures ∙ sym (ap is_ended c.in-Some.ensures.cases.0 ∙ end_behind c.in-Some.field-0-1.now c.in-Some.byte.now)
