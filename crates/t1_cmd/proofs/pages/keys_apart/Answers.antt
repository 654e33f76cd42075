use Rattle.std.proofs.Common.{◌∙◌}
use Rattle.t1_subset.specs.NameSets.{lent}
use Rattle.t1_document.specs.{declared.entries.Least.TheVariants.{One}, Groups.{outcome_in}, Joins.{new_texts}, Apart.{left_apart}}
use Rattle.t1_cmd.proofs.DocumentLemmas.{told_so}
use Rattle.t1_cmd.proofs.pages.keys_apart.Goals as goal

pub returns-clause-apart : goal.returns-clause-apart
returns-clause-apart c = (
  outcome_in c.in_ok-pooled.pooled.joins,
  c.in_ok-pooled.ensures.joins,
  c.in_ok-pooled.ensures.fonts,
  c.in_ok-pooled.ensures.documents,
)

pub returns-clause-lines : goal.returns-clause-lines
returns-clause-lines c =
    let pooled = c.in_ok-pooled.pooled in
    let outcomes = outcome_in pooled.joins in
    let left = left_apart One c.args.by (new_texts outcomes) (lent c.args.documents.now) in (
      outcomes,
      c.in_ok-pooled.ensures.joins,
      c.in_ok-lines.ensures
          ∙ told_so outcomes c.as_slice.result.now pooled.left.items c.as_slice-2.result.now pooled.places.items left _ c.as_slice.ensures.value
          c.as_slice-2.ensures.value c.in_ok-pooled.ensures.left c.in_ok-pooled.ensures.places,
    )
