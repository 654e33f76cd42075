use Rattle.std.proofs.Common.{not, map, drop}
use Rattle.t1_algebra.specs.{Shared.{same_part}, Conflicts.{ShellDiffers}}
use Rattle.t1_subset.{specs.Differences.{shell_part}, proofs.Telling.{Adding, each_told}}
use Rattle.t1_subset.proofs.differences.add_parts.Given as goal

abbrev pub invariant-parts : goal.invariant-parts
invariant-parts l = Adding l.initial.all.items l.all.items
    (each_told (λ part. not (same_part l.own l.other part)) ShellDiffers (map shell_part l.parts))
    (each_told (λ part. not (same_part l.own l.other part)) ShellDiffers (map shell_part (drop l.part-index l.parts)))
