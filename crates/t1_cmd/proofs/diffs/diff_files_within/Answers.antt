use Rattle.std.proofs.Common.{[], ◌∷◌}
use Rattle.t1_cmd.{specs.{Fonts.{font_input}, Budgets.{DiffersWithin}}, proofs.{Files.{refuses_values}, DiffLemmas.{both_fonts}}}
use Rattle.t1_cmd.proofs.diffs.diff_files_within.Goals as goal

pub returns-in-Ok-diff_text-clause-text : goal.returns-in-Ok-diff_text-clause-text
returns-in-Ok-diff_text-clause-text c =
    let left = c.in_ok-left.left in let right = c.in-Ok.right in (
      left ∷ right ∷ [],
      both_fonts c.args.first.now c.args.second.now left right c.in_ok-left.ensures.source c.in-Ok.ensures.source,
      (c.in-Ok-diff_text.ensures.text, c.in-Ok-diff_text.ensures.enough),
    )

pub returns-clause-refused : goal.returns-clause-refused
returns-clause-refused c =
    let left = c.in_ok-left.left in let right = c.in-Ok.right in
    refuses_values font_input (DiffersWithin c.args.budget.left) (c.args.first.now ∷ c.args.second.now ∷ []) (left ∷ right ∷ []) c.in-Err-diff_text.reason
    (both_fonts c.args.first.now c.args.second.now left right c.in_ok-left.ensures.source c.in-Ok.ensures.source) c.in-Err-diff_text.ensures.refused
