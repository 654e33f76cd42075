use Rattle.std.{proofs.Common.{◌≡◌, map, take, Some}, specs.Prelude.{if◌then◌else◌}}
use Rattle.t1_document.specs.{declared.joins.Outcome.TheVariants.{Stays}, declared.joins.Kept.TheVariants.{Barred}, Groups.{outcome_in}, Texts.{has_text}}
use Rattle.t1_cmd.specs.Documents.{kept_line}
use Rattle.t1_cmd.proofs.documents.lines_with.Given as goal

abbrev pub invariant-names : goal.invariant-names
invariant-names l = map (λ t. t.items) l.lines.items
    ≡ map (λ name. kept_line name (if has_text l.left name then Some (Stays Barred) else outcome_in l.joins name))
    (map (λ n. n.now) (take l.name-index l.name-items))
