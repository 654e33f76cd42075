use Rattle.std.proofs.Common.{ℕ, List, ap, ◌∙◌}
use Rattle.t1_document.specs.{Documents.{Document}, Joins.{new_texts}, Groups.{outcome_in}, Pooling.{free_start, document_pooled, left_keys}, Views.{document_view}}
use Rattle.t1_document.proofs.pooling.pool_document.Goals as goal

pub returns-clause-text : goal.returns-clause-text
returns-clause-text c =
    let new = new_texts (outcome_in c.in_ok-joins.joins) in
    c.in_ok-lined.ensures.text
    ∙ (ap (λ (start : List ℕ). document_pooled start c.args.by new (document_view c.in_ok-document.document))
    (c.deref.ensures.value ∙ c.in_ok-start.ensures)
    ∙ ap (λ (d : Document). document_pooled (free_start c.args.text.now) c.args.by new d) c.in_ok-document.ensures.exact)

pub returns-clause-left : goal.returns-clause-left
returns-clause-left c =
    let new = new_texts (outcome_in c.in_ok-joins.joins) in
    c.in_ok-lined.ensures.left
    ∙ (ap (λ (start : List ℕ). left_keys start c.args.by new (document_view c.in_ok-document.document).places)
    (c.deref.ensures.value ∙ c.in_ok-start.ensures)
    ∙ ap (λ (d : Document). left_keys (free_start c.args.text.now) c.args.by new d.places) c.in_ok-document.ensures.exact)
