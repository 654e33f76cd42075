use Rattle.t1_subset.specs.NameSets.{lent}
use Rattle.t1_cmd.{specs.{Mergers.{inputs_of}, Documents.{text_input}, FontPlaces.{ListsTo}}, proofs.{RunLemmas.{ends_succeeds}, DocumentCommands.{lists_apart}}}
use Rattle.t1_cmd.proofs.font_places.run_fonts.Goals as goal

pub returns-clause-succeeds : goal.returns-clause-succeeds
returns-clause-succeeds g c =
    ends_succeeds text_input (ListsTo (lent c.args.labels.now)) (lists_apart (lent c.args.labels.now)) g.W.Write.contents
    (inputs_of g.R.Read.remaining c.args.readers.now c.run_documents.new.readers)
    c.args.writer.now c.run_documents.new.writer c.run_documents.result c.run_documents.ensures.ends
