use Rattle.std.proofs.Common.{◌≡◌, drop}
use Rattle.t1_classes.specs.{Joining.{joins}, Partition.{pair_from}, Views.{group_lists}}
use Rattle.t1_classes.proofs.settling.pair.Given as goal

abbrev pub invariant-groups : goal.invariant-groups
invariant-groups l = pair_from (joins l.name) l.place (group_lists (drop l.place l.groups)) ≡ pair_from (joins l.name) 0 (group_lists l.groups)
