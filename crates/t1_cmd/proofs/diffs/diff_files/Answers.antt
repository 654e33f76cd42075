use Rattle.std.proofs.Common.{None, [], ◌∷◌}
use Rattle.t1_cmd.{specs.{Fonts.{font_input}, Diffs.{DiffersBy}, Budgets.{DiffersWithin}}, proofs.Budgets.{differs_without, answer_too, refusal_too}}
use Rattle.t1_cmd.proofs.diffs.diff_files.Goals as goal

pub returns-clause-text : goal.returns-clause-text
returns-clause-text c =
    answer_too font_input (DiffersWithin None) DiffersBy differs_without (λ v. v.items) (c.args.first.now ∷ c.args.second.now ∷ [])
    c.diff_files_within.result c.diff_files_within.ensures.text

pub returns-clause-refused : goal.returns-clause-refused
returns-clause-refused c =
    refusal_too font_input (DiffersWithin None) DiffersBy differs_without (c.args.first.now ∷ c.args.second.now ∷ [])
    c.diff_files_within.result c.diff_files_within.ensures.refused
