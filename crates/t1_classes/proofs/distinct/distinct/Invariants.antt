use Rattle.std.proofs.Common.{◌≡◌, drop, []}
use Rattle.t1_classes.specs.{Partition.{put_all}, Views.{lent}}
use Rattle.t1_classes.proofs.distinct.distinct.Given as goal

abbrev pub invariant-files : goal.invariant-files
invariant-files l = put_all (lent l.sorted.items) (lent (drop l.file-index l.files)) ≡ put_all [] (lent l.files)
