use Rattle.std.{proofs.Common.{subst, sym, Ok, Result}, specs.Prelude.{IfOk, IfErr}}
use Rattle.t1_font.specs.FontValue.{FontValue}
use Rattle.t1_subset.specs.NameSets.{lent}
use Rattle.t1_cmd.specs.{declared.faults.Reason.{Reason}, Answers.{MayRefuse, OfThere}, Fonts.{font_input}, Budgets.{SubsetsWithin}}
use Rattle.t1_cmd.proofs.Budgets.{refuses_there}
use Rattle.t1_cmd.proofs.subsets.subset_file_within.Goals as goal

pub returns-in-Err-clause-refused : goal.returns-in-Err-clause-refused
returns-in-Err-clause-refused c =
    refuses_there (SubsetsWithin c.args.budget.left c.args.form (lent c.args.names.now) c.args.codes.now) (font_input c.args.file.now) c.in-Err.reason
    c.in-Err.ensures.refused

pub returns-clause-text : goal.returns-clause-text
returns-clause-text c =
    let P = SubsetsWithin c.args.budget.left c.args.form (lent c.args.names.now) c.args.codes.now in
    subst (λ (o : Result FontValue Reason). IfOk c.text_within.result (λ text. OfThere P o (Ok text.items))) (sym c.in-Ok.ensures.source)
    c.text_within.ensures.text

pub returns-clause-refused : goal.returns-clause-refused
returns-clause-refused c =
    let P = SubsetsWithin c.args.budget.left c.args.form (lent c.args.names.now) c.args.codes.now in
    subst (λ (o : Result FontValue Reason). IfErr c.text_within.result (MayRefuse (OfThere P o))) (sym c.in-Ok.ensures.source)
    c.text_within.ensures.refused
