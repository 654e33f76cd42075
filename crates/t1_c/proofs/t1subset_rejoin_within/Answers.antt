use Rattle.std.proofs.Common.{Option, Some, subst}
use Rattle.t1_bytes.specs.declared.form.Form.{Form}
use Rattle.t1_subset.specs.NameSets.{lent}
use Rattle.t1_cmd.specs.{Fonts.{mended_input}, Budgets.{RejoinsWithin}}
use Rattle.t1_c.{specs.Gives.{GivesFiles, In}, proofs.Given.{gives_files}}
use Rattle.t1_c.proofs.t1subset_rejoin_within.Goals as goal

pub returns-in-Some : goal.returns-in-Some
returns-in-Some c =
    let files = lent c.args.fonts.now in
    let left = Some c.args.limits.now.tokens in
    subst (λ (o : Option Form). In o (λ f. GivesFiles mended_input (RejoinsWithin left f) files) c.give_files.result c.give_files.new.answer) c.in-Some.ensures
    (gives_files mended_input (RejoinsWithin left c.in-Some.form) files (λ v. v.items) c.rejoin_files_within.result c.give_files.result c.give_files.new.answer
    c.rejoin_files_within.ensures.text c.rejoin_files_within.ensures.refused c.give_files.ensures.whole c.give_files.ensures.told)
