use Rattle.std.proofs.Common.{◌≡◌, ◌+◌, ◌≤◌, length, map, filter, drop}
use Rattle.t1_document.specs.Groups.{outcome_in}
use Rattle.t1_cmd.specs.FontPlaces.{is_kept}
use Rattle.t1_cmd.proofs.font_places.kept_count.Given as goal

abbrev pub invariant-names : goal.invariant-names
invariant-names l =
    (l.kept + length (filter (λ name. is_kept (outcome_in l.joins name)) (map (λ n. n.now) (drop l.name-index l.names)))
    ≡ length (filter (λ name. is_kept (outcome_in l.joins name)) (map (λ n. n.now) l.names)))
    × (l.kept ≤ l.name-index)
