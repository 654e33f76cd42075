use Rattle.std.proofs.Common.{None}
use Rattle.t1_subset.specs.NameSets.{lent}
use Rattle.t1_cmd.specs.{Answers.{OfThere}, Fonts.{font_input, of_file}, Subsets.{subset_with_codes}, Budgets.{SubsetsWithin}}
use Rattle.t1_cmd.proofs.Budgets.{subsets_of_there, text_is, refusal_is}
use Rattle.t1_cmd.proofs.subsets.subset_file_with_codes.Goals as goal

pub returns-clause-text : goal.returns-clause-text
returns-clause-text c =
    let names = lent c.args.names.now in
    let codes = c.args.codes.now in
    text_is (λ v. v.items) (OfThere (SubsetsWithin None c.args.form names codes) (font_input c.args.file.now))
    (of_file (subset_with_codes c.args.form names codes) c.args.file.now)
    (subsets_of_there c.args.form names codes (font_input c.args.file.now)) c.subset_file_within.result c.subset_file_within.ensures.text

pub returns-clause-refused : goal.returns-clause-refused
returns-clause-refused c =
    let names = lent c.args.names.now in
    let codes = c.args.codes.now in
    refusal_is (λ v. v.items) (OfThere (SubsetsWithin None c.args.form names codes) (font_input c.args.file.now))
    (of_file (subset_with_codes c.args.form names codes) c.args.file.now)
    (subsets_of_there c.args.form names codes (font_input c.args.file.now)) c.subset_file_within.result c.subset_file_within.ensures.refused
