use Rattle.std.proofs.Common.{ℕ, List, map, Bor, Vec, Ok, sym, ap, subst, ◌∙◌}
use Rattle.t1_cmd.specs.{declared.faults.RunFault.TheVariants.{Refused}, Answers.{MayRefuse}, Mergers.{inputs_of}, Documents.{text_input}}
use Rattle.t1_cmd.proofs.{RunLemmas.{stopped, write_ends}, Refusals.{answer_stops}}
use Rattle.t1_cmd.proofs.document_commands.run_documents.Goals as goal

-- documents that were lent
abbrev values : List (Bor (List ℕ)) → List (List ℕ)
values ds = map (λ d. d.now) ds

-- documents that are owned
abbrev owned : {Z : Type 0} → List (Vec ℕ Z) → List (List ℕ)
owned ts = map (λ t. t.items) ts

pub returns-in-Err-text-clause-ends : goal.returns-in-Err-text-clause-ends
returns-in-Err-text-clause-ends g c =
    let Answers = g.T.DocumentsCommand.Answers c.args.command.now in
    let inputs = inputs_of g.R.Read.remaining c.args.readers.now c.read_texts.new.readers in
    let same = ap values c.as_slice-2.ensures.value ∙ (c.in_ok-documents.ensures ∙ ap owned c.as_slice.ensures.value) in
    stopped text_input Answers g.W.Write.contents inputs c.args.writer.now (Refused c.in-Err-text.reason)
    (answer_stops text_input Answers inputs (owned c.in-Ok.texts.items) c.in-Err-text.reason c.in-Ok.ensures.says
    (subst (λ (ds : List (List ℕ)). MayRefuse (Answers ds) c.in-Err-text.reason) same c.in-Err-text.ensures.refused))

pub returns-clause-ends : goal.returns-clause-ends
returns-clause-ends g c =
    let Answers = g.T.DocumentsCommand.Answers c.args.command.now in
    let inputs = inputs_of g.R.Read.remaining c.args.readers.now c.read_texts.new.readers in
    let same = ap values c.as_slice-2.ensures.value ∙ (c.in_ok-documents.ensures ∙ ap owned c.as_slice.ensures.value) in
    write_ends text_input Answers g.W.Write.contents inputs (owned c.in-Ok.texts.items) c.args.writer.now c.write_text.new.writer
    c.as_slice-3.result.now c.write_text.result c.in-Ok.ensures.says
    (subst (λ (t : List ℕ). Answers (owned c.in-Ok.texts.items) (Ok t)) (sym c.as_slice-3.ensures.value)
    (subst (λ (ds : List (List ℕ)). Answers ds (Ok c.in-Ok-text.text.items)) same c.in-Ok-text.ensures.text))
    c.write_text.ensures.whole c.write_text.ensures.fault c.write_text.ensures.prefix c.write_text.ensures.rose
