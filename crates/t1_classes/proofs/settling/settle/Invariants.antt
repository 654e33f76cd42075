use Rattle.std.proofs.Common.{◌≡◌, ◌-◌, length}
use Rattle.t1_classes.specs.{Joining.{joins}, Partition.{settled}, Views.{group_lists}}
use Rattle.t1_classes.proofs.settling.settle.Given as goal

abbrev pub invariant-groups : goal.invariant-groups
invariant-groups l = settled (joins l.name) (length l.initial.groups.items - l._turn) (group_lists l.groups.items)
    ≡ settled (joins l.name) (length l.initial.groups.items) (group_lists l.initial.groups.items)
