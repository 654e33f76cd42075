use Rattle.std.proofs.Common.{◌≡◌, ◌++◌, take}
use Rattle.t1_classes.specs.{Partition.{singles}, Views.{lent, group_lists}}
use Rattle.t1_classes.proofs.fitting.push_singles.Given as goal

abbrev pub invariant-files : goal.invariant-files
invariant-files l = group_lists l.groups.items ≡ group_lists l.fn.groups.items ++ singles (lent (take l.file-index l.files))
