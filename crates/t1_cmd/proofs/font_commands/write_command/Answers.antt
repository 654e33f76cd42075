use Rattle.std.proofs.Common.{[], ◌∷◌, ◌∙◌, ap, Ok}
use Rattle.t1_cmd.{specs.{declared.faults.RunFault.TheVariants.{Refused}, Answers.{Prints}, Fonts.{input_by}}, proofs.{FontLemmas.{command_stops, command_says}, RunLemmas.{stopped, write_ends}}}
use Rattle.t1_cmd.proofs.font_commands.write_command.Goals as goal

pub returns-in-Err : goal.returns-in-Err
returns-in-Err g c i has =
    let answer = g.T.FontCommand.answer c.args.command.now in
    stopped (input_by c.args.taking) (Prints answer) g.W.Write.contents (i ∷ []) c.args.writer.now (Refused c.in-Err.reason)
    (command_stops (input_by c.args.taking) answer i c.args.file.items c.in-Err.reason has c.in-Err.ensures.refused)

pub returns : goal.returns
returns g c i has =
    let answer = g.T.FontCommand.answer c.args.command.now in
    let font = command_says (input_by c.args.taking) answer i c.args.file.items c.in-Ok.text.items has c.in-Ok.ensures.text in
    write_ends (input_by c.args.taking) (Prints answer) g.W.Write.contents (i ∷ []) (font.0 ∷ [])
    c.args.writer.now c.write_text.new.writer c.as_slice.result.now c.write_text.result
    (font.1, tt) (ap Ok c.as_slice.ensures.value ∙ font.2)
    c.write_text.ensures.whole c.write_text.ensures.fault c.write_text.ensures.prefix c.write_text.ensures.rose
