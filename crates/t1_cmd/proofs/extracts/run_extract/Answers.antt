use Rattle.t1_cmd.{specs.{Mergers.{inputs_of}, Documents.{text_input}, Extracts.{ExtractsTo}}, proofs.{RunLemmas.{ends_succeeds}, DocumentCommands.{extracts_apart}}}
use Rattle.t1_cmd.proofs.extracts.run_extract.Goals as goal

pub returns-clause-succeeds : goal.returns-clause-succeeds
returns-clause-succeeds g c =
    ends_succeeds text_input (ExtractsTo c.args.name.now) (extracts_apart c.args.name.now) g.W.Write.contents
    (inputs_of g.R.Read.remaining c.args.readers.now c.run_documents.new.readers)
    c.args.writer.now c.run_documents.new.writer c.run_documents.result c.run_documents.ensures.ends
