use Rattle.std.proofs.Common.{Option, subst}
use Rattle.t1_subset.specs.NameSets.{lent}
use Rattle.t1_cmd.specs.{declared.pools.Pooling.{Pooling}, Documents.{text_input}, Pages.{PoolsTo}}
use Rattle.t1_c.{specs.Gives.{GivesFiles, In}, proofs.Given.{gives_files}}
use Rattle.t1_c.proofs.t1subset_pool.Goals as goal

pub returns-in-Some : goal.returns-in-Some
returns-in-Some c =
    let files = lent c.args.documents.now in
    let code = c.give_files.result in
    let answer = c.give_files.new.answer in
    subst (λ (o : Option Pooling). In o (λ how. GivesFiles text_input (PoolsTo how) files) code answer) c.in-Some.ensures
    (gives_files text_input (PoolsTo c.in-Some.how) files (λ v. v.items) c.pooled.result code answer
    c.pooled.ensures.text c.pooled.ensures.refused c.give_files.ensures.whole c.give_files.ensures.told)
