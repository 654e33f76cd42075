use Rattle.t1_cmd.{specs.{Inputs.{input_of}, Fonts.{input_by}}, proofs.FontLemmas.{ends_well}}
use Rattle.t1_cmd.proofs.font_commands.run_command.Goals as goal

pub returns-clause-ends : goal.returns-clause-ends
returns-clause-ends g c =
    c.write_command.ensures (input_of g.R.Read.remaining c.args.reader.now c.read_file.new.reader) c.in_ok-file.ensures.file

pub returns-clause-succeeds : goal.returns-clause-succeeds
returns-clause-succeeds g c =
    ends_well (input_by c.args.taking) (g.T.FontCommand.answer c.args.command.now) g.W.Write.contents
    (input_of g.R.Read.remaining c.args.reader.now c.read_file.new.reader)
    c.args.writer.now c.write_command.new.writer c.write_command.result (returns-clause-ends g c)
