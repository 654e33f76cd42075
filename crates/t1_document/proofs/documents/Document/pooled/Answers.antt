use Rattle.std.proofs.Common.{◌++◌, List, map, ap, ◌∙◌}
use Rattle.t1_document.specs.{declared.documents.Place.{Place as CodePlace}, declared.entries.Least.TheVariants.{Two}, Joins.{new_texts}, Groups.{outcome_in}}
use Rattle.t1_document.specs.{Rewriting.{fated_bytes}, Pooling.{line_fates, prolog}, Texts.{text_in}, Views.{place_view, document_view}}
use Rattle.t1_document.specs.Apart.{fonts_among, ends_among, left_among}
use Rattle.t1_document.proofs.PooledDocuments.{assembled}
use Rattle.t1_document.proofs.documents.Document.pooled.Goals as goal

pub returns-clause-text : goal.returns-clause-text
returns-clause-text c =
    let start = c.args.start.now in
    let by = c.args.by in
    let new = new_texts (outcome_in c.args.joins.now) in
    let ends = text_in c.in_ok-entries.entries.ends in
    assembled start by new (document_view c.args.self.now) c.in_ok-entries.entries.bytes.items c.in_ok-text.text.items c.push_lined.new.out.items ends
    (c.in_ok-entries.ensures.bytes ∙ ap (λ (ps : List CodePlace). fonts_among Two start by new (map place_view ps)) c.as_slice-own.ensures.value)
    (λ name. c.in_ok-entries.ensures.ends name
    ∙ ap (λ (ps : List CodePlace). ends_among Two start by new (map place_view ps) name) c.as_slice-own.ensures.value)
    (c.in_ok-text.ensures ∙ ap prolog c.as_slice.ensures.value)
    (c.in_ok-push_lined.ensures
    ∙ ap (λ (ps : List CodePlace). c.in_ok-text.text.items ++ fated_bytes (line_fates start by ends (map place_view ps)) c.args.self.now.last.now)
    c.as_slice-own.ensures.value)

pub returns-clause-left : goal.returns-clause-left
returns-clause-left c =
    c.in_ok-entries.ensures.left
    ∙ ap (λ (ps : List CodePlace). left_among Two c.args.start.now c.args.by (new_texts (outcome_in c.args.joins.now)) (map place_view ps))
    c.as_slice-own.ensures.value
