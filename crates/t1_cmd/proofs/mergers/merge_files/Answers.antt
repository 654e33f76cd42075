use Rattle.t1_subset.specs.NameSets.{lent}
use Rattle.std.proofs.Common.{None}
use Rattle.t1_cmd.{specs.{Fonts.{font_input}, Mergers.{MergesToFile}, Budgets.{MergesWithin}}, proofs.{Budgets.{merges_without, answer_too, refusal_too}, WrittenSubsets.{merges_to_union}}}
use Rattle.t1_cmd.proofs.mergers.merge_files.Goals as goal

pub returns-clause-text : goal.returns-clause-text
returns-clause-text c =
    answer_too font_input (MergesWithin None c.args.form) (MergesToFile c.args.form) (merges_without c.args.form) (λ v. v.items) (lent c.args.files.now)
    c.merge_files_within.result c.merge_files_within.ensures.text

pub returns-clause-refused : goal.returns-clause-refused
returns-clause-refused c =
    refusal_too font_input (MergesWithin None c.args.form) (MergesToFile c.args.form) (merges_without c.args.form) (lent c.args.files.now)
    c.merge_files_within.result c.merge_files_within.ensures.refused

pub returns-clause-subsets : goal.returns-clause-subsets
returns-clause-subsets c =
    merges_to_union c.args.form (lent c.args.files.now) (λ v. v.items) c.merge_files_within.result (returns-clause-text c) (returns-clause-refused c)
