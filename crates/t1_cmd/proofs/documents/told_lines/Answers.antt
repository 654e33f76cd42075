use Rattle.std.proofs.Common.{◌≡◌, ℕ, Bool, cond, List, [], map, Some, ap, ◌∙◌}
use Rattle.t1_document.specs.{declared.joins.Outcome.TheVariants.{Stays}, declared.joins.Kept.TheVariants.{Barred}}
use Rattle.t1_document.specs.{Groups.{outcome_in}, Joins.{names_from}, Rewriting.{is_seen}, Texts.{has_text}, Views.{place_view}}
use Rattle.t1_cmd.specs.Documents.{kept_line}
use Rattle.t1_cmd.proofs.documents.told_lines.Goals as goal

pub returns : goal.returns
returns c =
    let outcomes = outcome_in c.args.joins.now in
    let same : has_text c.in_ok-left.left ≡ is_seen (map (λ k. k.now) c.args.left.now) = λ i name. c.in_ok-left.ensures name i in
    c.in_ok-lines.ensures
    ∙ ap (λ (f : List ℕ → Bool). map (λ name. kept_line name (cond (f name) (Some (Stays Barred)) (outcomes name)))
    (names_from [] (map place_view c.args.places.now))) same
