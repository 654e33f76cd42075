use Rattle.t1_cmd.{specs.{Inputs.{input_of}, Documents.{taken_input}}, proofs.Refusals.{file_stops}}
use Rattle.t1_cmd.proofs.documents.read_text.Goals as goal

pub returns-in-Err-clause-ends : goal.returns-in-Err-clause-ends
returns-in-Err-clause-ends g c =
    file_stops (taken_input c.args.taken) (input_of g.R.Read.remaining c.args.reader.now c.read_file.new.reader) c.in_ok-file.file.items c.in-Err.reason
    c.in_ok-file.ensures.file c.in-Err.ensures.refused
