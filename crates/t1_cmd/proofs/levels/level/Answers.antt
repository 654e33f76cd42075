use Rattle.std.proofs.Common.{◌≡◌, ℕ, List, map, length, Bor, Vec, sym, ap, subst, ◌∙◌}
use Rattle.t1_subset.specs.NameSets.{lent}
use Rattle.t1_document.specs.{Rewriting.{levelled}, Groups.{outcome_in}, Joins.{Outcomes, AreOutcomes, new_texts, places_of_all}}
use Rattle.t1_document.specs.{declared.documents.Place.{Place as CodePlace}, Views.{place_view}}
use Rattle.t1_cmd.{specs.{Documents.{kept_lines}, Levels.{carried, files_with}}, proofs.LevelLemmas.{with_levelled, same_count}}
use Rattle.t1_cmd.proofs.levels.level.Goals as goal

-- texts that are owned, as values
abbrev values : {Z : Type 0} → List (Vec ℕ Z) → List (List ℕ)
values ts = map (λ t. t.items) ts

-- the documents that files carry, lent
carried_of : (files : List (List ℕ)) (documents lent_documents : List (Bor (List ℕ))) → lent documents ≡ map carried files → lent_documents ≡ documents →
    lent lent_documents ≡ map carried files
carried_of files documents lent_documents e same = ap lent same ∙ e

pub returns-clause-levels : goal.returns-clause-levels
returns-clause-levels c =
    let files : List (List ℕ) = lent c.args.files.now in
    let outcomes : Outcomes = outcome_in c.in_ok-levelled.levelled.joins in
    let documents = carried_of files c.in_ok-documents.documents.items c.as_slice.result.now c.in_ok-documents.ensures c.as_slice.ensures.value in (
      outcomes,
      subst (λ (ds : List (List ℕ)). AreOutcomes (places_of_all ds) outcomes) documents c.in_ok-levelled.ensures.joins,
      c.in_ok-texts.ensures
          ∙ (ap (files_with files) (ap values c.as_slice-3.ensures.value
          ∙ (c.in_ok-levelled.ensures.texts ∙ ap (map (levelled (new_texts outcomes))) documents))
          ∙ with_levelled (new_texts outcomes) files),
    )

pub returns-clause-kept : goal.returns-clause-kept
returns-clause-kept c =
    let files : List (List ℕ) = lent c.args.files.now in
    let outcomes : Outcomes = outcome_in c.in_ok-levelled.levelled.joins in
    let documents = carried_of files c.in_ok-documents.documents.items c.as_slice.result.now c.in_ok-documents.ensures c.as_slice.ensures.value in (
      outcomes,
      subst (λ (ds : List (List ℕ)). AreOutcomes (places_of_all ds) outcomes) documents c.in_ok-levelled.ensures.joins,
      c.in_ok-kept.ensures
          ∙ (ap (λ (ps : List CodePlace). kept_lines outcomes (map place_view ps)) c.as_slice-2.ensures.value
          ∙ ap (kept_lines outcomes) (c.in_ok-levelled.ensures.places ∙ ap places_of_all documents)),
    )

pub files_with-requires : goal.files_with-requires
files_with-requires c =
    let files : List (List ℕ) = lent c.args.files.now in
    let documents = carried_of files c.in_ok-documents.documents.items c.as_slice.result.now c.in_ok-documents.ensures c.as_slice.ensures.value in
    same_count (new_texts (outcome_in c.in_ok-levelled.levelled.joins)) c.args.files.now c.in_ok-levelled.levelled.texts.items
    (c.in_ok-levelled.ensures.texts ∙ ap (map (levelled (new_texts (outcome_in c.in_ok-levelled.levelled.joins)))) documents)
    ∙ ap length (sym c.as_slice-3.ensures.value)
