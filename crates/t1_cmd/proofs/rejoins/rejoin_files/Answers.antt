use Rattle.t1_subset.specs.NameSets.{lent}
use Rattle.std.proofs.Common.{None}
use Rattle.t1_cmd.{specs.{Fonts.{mended_input}, Rejoins.{RejoinsTo}, Budgets.{RejoinsWithin}}, proofs.{Budgets.{rejoins_without, answer_too, refusal_too}, CutLemmas.{rejoins_cut_files}}}
use Rattle.t1_cmd.proofs.rejoins.rejoin_files.Goals as goal

pub returns-clause-text : goal.returns-clause-text
returns-clause-text c =
    answer_too mended_input (RejoinsWithin None c.args.form) (RejoinsTo c.args.form) (rejoins_without c.args.form) (λ v. v.items) (lent c.args.files.now)
    c.rejoin_files_within.result c.rejoin_files_within.ensures.text

pub returns-clause-refused : goal.returns-clause-refused
returns-clause-refused c =
    refusal_too mended_input (RejoinsWithin None c.args.form) (RejoinsTo c.args.form) (rejoins_without c.args.form) (lent c.args.files.now)
    c.rejoin_files_within.result c.rejoin_files_within.ensures.refused

pub returns-clause-cuts : goal.returns-clause-cuts
returns-clause-cuts c =
    rejoins_cut_files c.args.form (lent c.args.files.now) (λ v. v.items) c.rejoin_files_within.result (returns-clause-text c) (returns-clause-refused c)
