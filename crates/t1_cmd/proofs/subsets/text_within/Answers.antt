use Rattle.std.{proofs.Common.{subst, Ok}, specs.Prelude.{IfOk, IfErr}}
use Rattle.t1_font.specs.FontValue.{FontValue}
use Rattle.t1_subset.specs.NameSets.{lent}
use Rattle.t1_cmd.specs.{Answers.{MayRefuse}, Budgets.{SubsetsWithin}}
use Rattle.t1_cmd.proofs.subsets.text_within.Goals as goal

pub returns-clause-text : goal.returns-clause-text
returns-clause-text c =
    subst (λ (f : FontValue). IfOk c.file_with_codes.result
    (λ text. SubsetsWithin c.args.budget.left c.args.form (lent c.args.names.now) c.args.codes.now f (Ok text.items)))
    c.in_ok-font.ensures c.file_with_codes.ensures.text

pub returns-clause-refused : goal.returns-clause-refused
returns-clause-refused c =
    subst (λ (f : FontValue). IfErr c.file_with_codes.result
    (MayRefuse (SubsetsWithin c.args.budget.left c.args.form (lent c.args.names.now) c.args.codes.now f)))
    c.in_ok-font.ensures c.file_with_codes.ensures.refused
