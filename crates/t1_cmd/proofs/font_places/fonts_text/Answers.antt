use Rattle.std.{proofs.Common.{◌≡◌, ◌++◌, ℕ, List, map, ap, subst, ◌∙◌}, specs.List.{flat_map}}
use Rattle.t1_subset.specs.NameSets.{lent}
use Rattle.t1_document.specs.{declared.documents.Place.{Place as CodePlace}, declared.documents.Document.{Document as CodeDocument}, Documents.{Place, Document, document_of}, Groups.{outcome_in}}
use Rattle.t1_document.specs.{Joins.{Outcomes, AreOutcomes, places_of_all}, Views.{place_view, document_view}}
use Rattle.t1_document.proofs.LevelLemmas.{places_all}
use Rattle.t1_cmd.specs.FontPlaces.{document_lines, count_line}
use Rattle.t1_cmd.proofs.font_places.fonts_text.Goals as goal

pub returns : goal.returns
returns c =
    let texts : List (List ℕ) = lent c.args.texts.now in
    let labels : List (List ℕ) = lent c.args.labels.now in
    let outcomes : Outcomes = outcome_in c.in_ok-joins.joins in
    let read : map document_view c.as_slice.result.now ≡ map document_of texts =
    ap (λ (ds : List CodeDocument). map document_view ds) c.as_slice.ensures.value ∙ c.in_ok-documents.ensures in
    let here : map place_view c.in_ok-places.places.items ≡ places_of_all texts =
    c.in_ok-places.ensures ∙ (ap (flat_map (λ (e : Document). e.places)) read ∙ places_all texts) in
    let are : AreOutcomes (map place_view c.in_ok-places.places.items) outcomes =
    subst (λ (ps : List CodePlace). AreOutcomes (map place_view ps) outcomes) c.as_slice-2.ensures.value c.in_ok-joins.ensures in (
      outcomes,
      subst (λ (ps : List Place). AreOutcomes ps outcomes) here are,
      c.in_ok-push_counts.ensures
          ∙ (ap (λ (t : List ℕ). t ++ count_line outcomes (map place_view c.as_slice-4.result.now))
          (c.in_ok-push_documents.ensures ∙ ap (λ (t : List ℕ). t ++ document_lines outcomes labels 0 texts) c.new-text.ensures.items)
          ∙ (ap (λ (ps : List CodePlace). document_lines outcomes labels 0 texts ++ count_line outcomes (map place_view ps)) c.as_slice-4.ensures.value
          ∙ ap (λ (ps : List Place). document_lines outcomes labels 0 texts ++ count_line outcomes ps) here)),
    )
