use Rattle.std.proofs.Common.{◌∙◌}
use Rattle.t1_document.specs.{Documents.{document_of}, Groups.{outcome_in}, Joins.{new_texts}}
use Rattle.t1_document.specs.{Pooling.{free_start, left_keys}}
use Rattle.t1_cmd.proofs.DocumentLemmas.{told_so}
use Rattle.t1_cmd.proofs.pools.pool_keys.Goals as goal

pub returns-clause-text : goal.returns-clause-text
returns-clause-text c = (outcome_in c.in_ok-pooled.pooled.joins, c.in_ok-pooled.ensures.joins, c.in_ok-pooled.ensures.text)

pub returns-clause-lines : goal.returns-clause-lines
returns-clause-lines c =
    let pooled = c.in_ok-pooled.pooled in
    let outcomes = outcome_in pooled.joins in
    let left = left_keys (free_start c.args.text.now) c.args.by (new_texts outcomes) (document_of c.args.text.now).places in (
      outcomes,
      c.in_ok-pooled.ensures.joins,
      c.in_ok-lines.ensures
          ∙ told_so outcomes c.as_slice.result.now pooled.left.items c.as_slice-2.result.now pooled.places.items left _ c.as_slice.ensures.value
          c.as_slice-2.ensures.value c.in_ok-pooled.ensures.left c.in_ok-pooled.ensures.places,
    )
