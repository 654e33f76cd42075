use Rattle.std.proofs.Common.{None, [], ◌∷◌}
use Rattle.t1_subset.specs.NameSets.{lent}
use Rattle.t1_cmd.specs.{Inputs.{input_of}, Answers.{OfOne, Prints}, Fonts.{font_input}, Subsets.{subset_answer}, Budgets.{SubsetsWithin}}
use Rattle.t1_cmd.proofs.{Budgets.{names_of_one, ends_too}, FontLemmas.{ends_well}}
use Rattle.t1_cmd.proofs.subsets.run_subset.Goals as goal

pub returns-clause-ends : goal.returns-clause-ends
returns-clause-ends g c =
    let names = lent c.args.names.now in
    ends_too font_input (OfOne (SubsetsWithin None c.args.form names [])) (Prints (subset_answer c.args.form names)) (names_of_one c.args.form names)
    g.W.Write.contents
    (input_of g.R.Read.remaining c.args.reader.now c.run_subset_within.new.reader ∷ [])
    c.args.writer.now c.run_subset_within.new.writer c.run_subset_within.result c.run_subset_within.ensures.ends

pub returns-clause-succeeds : goal.returns-clause-succeeds
returns-clause-succeeds g c =
    let names = lent c.args.names.now in
    ends_well font_input (subset_answer c.args.form names) g.W.Write.contents (input_of g.R.Read.remaining c.args.reader.now c.run_subset_within.new.reader)
    c.args.writer.now c.run_subset_within.new.writer c.run_subset_within.result (returns-clause-ends g c)
