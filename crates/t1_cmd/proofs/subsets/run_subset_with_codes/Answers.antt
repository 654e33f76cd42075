use Rattle.std.proofs.Common.{None, [], ◌∷◌}
use Rattle.t1_subset.specs.NameSets.{lent}
use Rattle.t1_cmd.specs.{Inputs.{input_of}, Answers.{OfOne, Prints}, Fonts.{font_input}, Subsets.{subset_with_codes}, Budgets.{SubsetsWithin}}
use Rattle.t1_cmd.proofs.{Budgets.{subsets_of_one, ends_too}, FontLemmas.{ends_well}}
use Rattle.t1_cmd.proofs.subsets.run_subset_with_codes.Goals as goal

pub returns-clause-ends : goal.returns-clause-ends
returns-clause-ends g c =
    let names = lent c.args.names.now in
    let codes = c.args.codes.now in
    ends_too font_input (OfOne (SubsetsWithin None c.args.form names codes)) (Prints (subset_with_codes c.args.form names codes))
    (subsets_of_one c.args.form names codes) g.W.Write.contents
    (input_of g.R.Read.remaining c.args.reader.now c.run_subset_within.new.reader ∷ [])
    c.args.writer.now c.run_subset_within.new.writer c.run_subset_within.result c.run_subset_within.ensures.ends

pub returns-clause-succeeds : goal.returns-clause-succeeds
returns-clause-succeeds g c =
    let names = lent c.args.names.now in
    let codes = c.args.codes.now in
    ends_well font_input (subset_with_codes c.args.form names codes) g.W.Write.contents
    (input_of g.R.Read.remaining c.args.reader.now c.run_subset_within.new.reader)
    c.args.writer.now c.run_subset_within.new.writer c.run_subset_within.result (returns-clause-ends g c)
