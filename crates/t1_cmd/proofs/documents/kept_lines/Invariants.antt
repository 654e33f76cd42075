use Rattle.std.{proofs.Common.{◌≡◌, ◌++◌, map, drop}, specs.List.{flat_map}}
use Rattle.t1_document.specs.Groups.{outcome_in}
use Rattle.t1_cmd.specs.Documents.{kept_line}
use Rattle.t1_cmd.proofs.documents.kept_lines.Given as goal

abbrev pub invariant-names : goal.invariant-names
invariant-names l =
    l.lines.items ++ flat_map (λ name. kept_line name (outcome_in l.joins name)) (map (λ n. n.now) (drop l.name-index l.name-items))
    ≡ flat_map (λ name. kept_line name (outcome_in l.joins name)) (map (λ n. n.now) l.name-items)
