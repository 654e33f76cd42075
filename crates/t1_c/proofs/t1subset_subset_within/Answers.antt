use Rattle.std.proofs.Common.{Option, Some, subst}
use Rattle.t1_bytes.specs.declared.form.Form.{Form}
use Rattle.t1_subset.specs.NameSets.{lent}
use Rattle.t1_cmd.specs.{Answers.{OfThere}, Fonts.{font_input}, Budgets.{SubsetsWithin}}
use Rattle.t1_c.{specs.Gives.{GivesAnswer, In}, proofs.Given.{gives_answer}}
use Rattle.t1_c.proofs.t1subset_subset_within.Goals as goal

pub returns-in-Some : goal.returns-in-Some
returns-in-Some c =
    let P = λ (f : Form). SubsetsWithin (Some c.args.limits.now.tokens) f (lent c.args.names.now) c.args.codes.now in
    subst (λ (o : Option Form). In o (λ f. GivesAnswer (P f) c.args.font.now) c.give_of.result c.give_of.new.answer) c.in-Some.ensures
    (gives_answer (OfThere (P c.in-Some.form) (font_input c.args.font.now)) (λ v. v.items) c.subset_file_within.result c.give_of.result c.give_of.new.answer
    c.subset_file_within.ensures.text c.subset_file_within.ensures.refused c.give_of.ensures.whole c.give_of.ensures.told)
