use Rattle.std.proofs.Common.{◌≡◌, drop}
use Rattle.t1_classes.specs.{Partition.{is_among}, Views.{lent}}
use Rattle.t1_classes.proofs.classes.is_among.Given as goal

abbrev pub invariant-group : goal.invariant-group
invariant-group l = is_among l.file (lent (drop l.other-index l.group)) ≡ is_among l.file (lent l.group)
