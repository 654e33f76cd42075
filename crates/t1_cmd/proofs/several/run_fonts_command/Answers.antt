use Rattle.std.proofs.Common.{List, ℕ, Ok, subst, sym}
use Rattle.t1_cmd.specs.{declared.faults.RunFault.TheVariants.{Refused}, Fonts.{input_by}, Mergers.{inputs_of}}
use Rattle.t1_cmd.proofs.{RunLemmas.{stopped, write_ends}, MergeLemmas.{inputs_stop}, Refusals.{answer_stops}}
use Rattle.t1_cmd.proofs.several.run_fonts_command.Goals as goal

pub returns-in-Err-clause-ends : goal.returns-in-Err-clause-ends
returns-in-Err-clause-ends g c =
    let Answers = g.T.FontsCommand.Answers c.args.command.now in
    let inputs = inputs_of g.R.Read.remaining c.args.readers.now c.read_fonts.new.readers in
    stopped (input_by c.args.taking) Answers g.W.Write.contents inputs c.args.writer.now c.in-Err.fault
    (inputs_stop (input_by c.args.taking) Answers inputs c.in-Err.fault c.in-Err.ensures.stops)

pub returns-in-Err-text-clause-ends : goal.returns-in-Err-text-clause-ends
returns-in-Err-text-clause-ends g c =
    let Answers = g.T.FontsCommand.Answers c.args.command.now in
    let inputs = inputs_of g.R.Read.remaining c.args.readers.now c.read_fonts.new.readers in
    stopped (input_by c.args.taking) Answers g.W.Write.contents inputs c.args.writer.now (Refused c.in-Err-text.reason)
    (answer_stops (input_by c.args.taking) Answers inputs c.in-Ok.sources.items c.in-Err-text.reason c.in-Ok.ensures.says c.in-Err-text.ensures.refused)

pub returns-clause-ends : goal.returns-clause-ends
returns-clause-ends g c =
    let Answers = g.T.FontsCommand.Answers c.args.command.now in
    write_ends (input_by c.args.taking) Answers g.W.Write.contents
    (inputs_of g.R.Read.remaining c.args.readers.now c.read_fonts.new.readers) c.in-Ok.sources.items
    c.args.writer.now c.write_text.new.writer c.as_slice.result.now c.write_text.result
    c.in-Ok.ensures.says
    (subst (λ (t : List ℕ). Answers c.in-Ok.sources.items (Ok t)) (sym c.as_slice.ensures.value) c.in-Ok-text.ensures.text)
    c.write_text.ensures.whole c.write_text.ensures.fault c.write_text.ensures.prefix c.write_text.ensures.rose
