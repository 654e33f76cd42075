use Rattle.std.proofs.Common.{rules, sym, ◌∙◌}
use Rattle.t1_cmd.proofs.Lines.{plain_shown}
use Rattle.t1_cmd.proofs.texts.push_shown.Goals as goal

pub returns-then-is_plain : goal.returns-then-is_plain
returns-then-is_plain c =
    let plain = plain_shown c.args.name.now (sym c.is_plain.ensures ∙ c.if-is_plain.true) in
    search rules
