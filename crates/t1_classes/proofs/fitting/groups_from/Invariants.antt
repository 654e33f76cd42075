use Rattle.std.proofs.Common.{◌≡◌, ◌++◌, ◌-◌, length}
use Rattle.t1_classes.specs.{Joining.{joins}, Partition.{groups_from}, Views.{lent, group_lists}}
use Rattle.t1_classes.proofs.fitting.groups_from.Given as goal

abbrev pub invariant-groups : goal.invariant-groups
invariant-groups l = group_lists l.groups.items ++ groups_from (joins l.name) (length l.files - l._turn) (lent l.left.items)
    ≡ groups_from (joins l.name) (length l.files) (lent l.files)
