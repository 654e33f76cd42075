use Rattle.std.proofs.Common.{List, ℕ, [], ◌∷◌, Ok, subst, sym}
use Rattle.t1_subset.specs.NameSets.{lent}
use Rattle.t1_cmd.specs.{declared.faults.RunFault.TheVariants.{Refused}, Inputs.{input_of}, Fonts.{font_input}, Answers.{OfOne}, Budgets.{SubsetsWithin}}
use Rattle.t1_cmd.proofs.{RunLemmas.{stops_after, stopped, write_ends}, Refusals.{answer_stops}}
use Rattle.t1_cmd.proofs.subsets.run_subset_within.Goals as goal

pub returns-in-Err-clause-ends : goal.returns-in-Err-clause-ends
returns-in-Err-clause-ends g c =
    let Answers = OfOne (SubsetsWithin c.args.budget.left c.args.form (lent c.args.names.now) c.args.codes.now) in
    let i = input_of g.R.Read.remaining c.args.reader.now c.read_font.new.reader in
    stopped font_input Answers g.W.Write.contents (i ∷ []) c.args.writer.now c.in-Err.fault
    (stops_after font_input Answers [] i [] c.in-Err.fault tt c.in-Err.ensures.ends)

pub returns-in-Err-text_within-clause-ends : goal.returns-in-Err-text_within-clause-ends
returns-in-Err-text_within-clause-ends g c =
    let Answers = OfOne (SubsetsWithin c.args.budget.left c.args.form (lent c.args.names.now) c.args.codes.now) in
    let i = input_of g.R.Read.remaining c.args.reader.now c.read_font.new.reader in
    stopped font_input Answers g.W.Write.contents (i ∷ []) c.args.writer.now (Refused c.in-Err-text_within.reason)
    (answer_stops font_input Answers (i ∷ []) (c.in-Ok.source ∷ []) c.in-Err-text_within.reason (c.in-Ok.ensures.ends, tt) c.in-Err-text_within.ensures.refused)

pub returns-clause-ends : goal.returns-clause-ends
returns-clause-ends g c =
    let P = SubsetsWithin c.args.budget.left c.args.form (lent c.args.names.now) c.args.codes.now in
    let i = input_of g.R.Read.remaining c.args.reader.now c.read_font.new.reader in
    write_ends font_input (OfOne P) g.W.Write.contents (i ∷ []) (c.in-Ok.source ∷ [])
    c.args.writer.now c.write_text.new.writer c.as_slice.result.now c.write_text.result
    (c.in-Ok.ensures.ends, tt)
    (subst (λ (t : List ℕ). P c.in-Ok.source (Ok t)) (sym c.as_slice.ensures.value) c.in-Ok-text_within.ensures.text)
    c.write_text.ensures.whole c.write_text.ensures.fault c.write_text.ensures.prefix c.write_text.ensures.rose
