use Rattle.std.proofs.Common.{Option, subst}
use Rattle.t1_bytes.specs.declared.form.Form.{Form}
use Rattle.t1_subset.specs.NameSets.{lent}
use Rattle.t1_cmd.specs.{Fonts.{mended_input}, Rejoins.{RejoinsTo}, Cuts.{OfRejoined}}
use Rattle.t1_c.{specs.Gives.{GivesFiles, In, IfForm, GivesText}, proofs.Given.{gives_files, gives_rejoined}}
use Rattle.t1_c.proofs.t1subset_rejoin.Goals as goal

pub returns-in-Some-clause-gives : goal.returns-in-Some-clause-gives
returns-in-Some-clause-gives c =
    let files = lent c.args.fonts.now in
    let code = c.give_files.result in
    let answer = c.give_files.new.answer in
    subst (λ (o : Option Form). In o (λ f. GivesFiles mended_input (RejoinsTo f) files) code answer) c.in-Some.ensures
    (gives_files mended_input (RejoinsTo c.in-Some.form) files (λ v. v.items) c.rejoin_files.result code answer
    c.rejoin_files.ensures.text c.rejoin_files.ensures.refused c.give_files.ensures.whole c.give_files.ensures.told)

pub returns-in-Some-clause-cuts : goal.returns-in-Some-clause-cuts
returns-in-Some-clause-cuts c =
    let files = lent c.args.fonts.now in
    let code = c.give_files.result in
    let answer = c.give_files.new.answer in
    subst (λ (o : Option Form). IfForm o (λ f. OfRejoined f files (GivesText code answer))) c.in-Some.ensures
    (gives_rejoined c.in-Some.form files (λ v. v.items) c.rejoin_files.result code answer
    c.rejoin_files.ensures.cuts c.give_files.ensures.whole c.give_files.ensures.told)
