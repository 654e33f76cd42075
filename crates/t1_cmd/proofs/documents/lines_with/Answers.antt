use Rattle.std.proofs.{Common.{ℕ, List, cond, map, Some, ◌∷◌, [], ap, ◌∙◌}, lemmas.List.{map-append}}
use Rattle.t1_document.specs.{declared.joins.Outcome.TheVariants.{Stays}, declared.joins.Kept.TheVariants.{Barred}, Groups.{outcome_in}, Texts.{has_text}}
use Rattle.t1_cmd.specs.Documents.{kept_line}
use Rattle.t1_cmd.proofs.DocumentLemmas.{lines_more}
use Rattle.t1_cmd.proofs.documents.lines_with.Goals as goal

pub names-preserved : goal.names-preserved
names-preserved c =
    let line : List ℕ → List ℕ =
    λ name. kept_line name (cond (has_text c.args.left.now name) (Some (Stays Barred)) (outcome_in c.args.joins.now name)) in
    lines_more c.as_slice-name-items.result.now line c.names.name-index _ c.names-test.true _ _
    (map (λ t. t.items) c.push_item.new.items.items) c.names.invariant
    c.in_ok-line.ensures
    (ap (map (λ t. t.items)) c.in_ok-push_item.ensures.added ∙ map-append (λ t. t.items) c.names.lines.items (c.in_ok-line.line ∷ []))
