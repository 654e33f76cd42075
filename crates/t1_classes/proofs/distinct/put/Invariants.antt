use Rattle.std.proofs.Common.{◌≡◌, ◌++◌, take, drop}
use Rattle.t1_classes.specs.{Partition.{put}, Views.{lent}}
use Rattle.t1_classes.proofs.distinct.put.Given as goal

abbrev pub invariant-files : goal.invariant-files
invariant-files l = (l.sorted.items ≡ l.initial.sorted.items)
    × (put l.file (lent l.sorted.items) ≡ lent (take l.place l.sorted.items) ++ put l.file (lent (drop l.place l.sorted.items)))
