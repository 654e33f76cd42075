use Rattle.std.{proofs.Common.{◌≡◌, drop, map, not}, specs.List.{find}}
use Rattle.t1_algebra.specs.Shared.{same_part}
use Rattle.t1_subset.specs.Differences.{shell_part}
use Rattle.t1_subset.proofs.shared.first_differing.Given as goal

abbrev pub invariant-parts : goal.invariant-parts
invariant-parts l = find (λ part. not (same_part l.left l.right part)) (map shell_part (drop l.part-index l.parts))
    ≡ find (λ part. not (same_part l.left l.right part)) (map shell_part l.parts)
