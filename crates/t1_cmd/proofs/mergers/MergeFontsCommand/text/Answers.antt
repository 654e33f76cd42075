use Rattle.std.{proofs.Common.{◌∙◌, subst, Ok, List}, specs.Prelude.{IfOk}}
use Rattle.t1_font.specs.FontValue.{FontValue}
use Rattle.t1_cmd.specs.Budgets.{MergesWithin}
use Rattle.t1_cmd.proofs.mergers.MergeFontsCommand.text.Goals as goal

pub returns-clause-text : goal.returns-clause-text
returns-clause-text c =
    subst (λ (fs : List FontValue). IfOk c.merged_file.result (λ text. MergesWithin c.args.self.now.budget.left c.args.self.now.form fs (Ok text.items)))
    (c.in_ok-fonts.ensures ∙ c.as_slice.ensures.value) c.merged_file.ensures.text
