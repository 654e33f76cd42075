use Rattle.t1_cmd.{specs.{Inputs.{input_of}, Fonts.{input_by}}, proofs.Refusals.{file_stops}}
use Rattle.t1_cmd.proofs.font_commands.read_font.Goals as goal

pub returns-in-Err-clause-ends : goal.returns-in-Err-clause-ends
returns-in-Err-clause-ends g c =
    file_stops (input_by c.args.taking) (input_of g.R.Read.remaining c.args.reader.now c.read_file.new.reader) c.in_ok-file.file.items c.in-Err.reason
    c.in_ok-file.ensures.file c.in-Err.ensures.refused
