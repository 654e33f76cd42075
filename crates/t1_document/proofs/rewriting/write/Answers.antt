use Rattle.std.proofs.Common.{◌++◌, ℕ, List, map, sym, ap, ◌∙◌}
use Rattle.t1_document.specs.{declared.documents.Place.{Place as CodePlace}, Rewriting.{standing, without_refused, level_fates, fated_bytes}}
use Rattle.t1_document.specs.{Texts.{text_in, has_text}, Views.{place_view, document_view}}
use Rattle.t1_document.proofs.Rewritten.{fated_written}
use Rattle.t1_document.proofs.rewriting.write.Goals as goal

pub returns : goal.returns
returns c =
    let d = document_view c.args.document.now in
    let new = text_in c.args.new.now in
    let refused = has_text c.args.refused.now in
    c.in_ok-push_levelled.ensures
    ∙ (ap (λ (u : List ℕ). u ++ fated_bytes (level_fates (without_refused refused new) (map place_view c.as_slice.result.now)) d.last) c.new-out.ensures.items
    ∙ (ap (λ (ps : List CodePlace). fated_bytes (level_fates (without_refused refused new) (map place_view ps)) d.last) c.as_slice.ensures.value
    ∙ ((λ i. fated_bytes (level_fates (without_refused (λ name. c.requires name i) new) d.places) d.last)
    ∙ sym (fated_written (level_fates (standing new d.places) d.places) d.last))))
