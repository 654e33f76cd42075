use Rattle.std.proofs.Common.{Option, subst}
use Rattle.t1_bytes.specs.declared.form.Form.{Form}
use Rattle.t1_subset.specs.NameSets.{lent}
use Rattle.t1_cmd.specs.{Fonts.{font_input}, Mergers.{MergesToFile}, WrittenSubsets.{OfUnion}}
use Rattle.t1_c.{specs.Gives.{GivesFiles, In, IfForm, GivesText}, proofs.Given.{gives_files, gives_union}}
use Rattle.t1_c.proofs.t1subset_merge.Goals as goal

pub returns-in-Some-clause-gives : goal.returns-in-Some-clause-gives
returns-in-Some-clause-gives c =
    let files = lent c.args.fonts.now in
    let code = c.give_files.result in
    let answer = c.give_files.new.answer in
    subst (λ (o : Option Form). In o (λ f. GivesFiles font_input (MergesToFile f) files) code answer) c.in-Some.ensures
    (gives_files font_input (MergesToFile c.in-Some.form) files (λ v. v.items) c.merge_files.result code answer
    c.merge_files.ensures.text c.merge_files.ensures.refused c.give_files.ensures.whole c.give_files.ensures.told)

pub returns-in-Some-clause-subsets : goal.returns-in-Some-clause-subsets
returns-in-Some-clause-subsets c =
    let files = lent c.args.fonts.now in
    let code = c.give_files.result in
    let answer = c.give_files.new.answer in
    subst (λ (o : Option Form). IfForm o (λ f. OfUnion f files (GivesText code answer))) c.in-Some.ensures
    (gives_union c.in-Some.form files (λ v. v.items) c.merge_files.result code answer
    c.merge_files.ensures.subsets c.give_files.ensures.whole c.give_files.ensures.told)
