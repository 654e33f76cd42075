use Rattle.std.proofs.Common.{◌≡◌, take}
use Rattle.t1_subset.specs.NameSets.{lent}
use Rattle.std.specs.FinSet as sets
use Rattle.t1_subset.proofs.closures.upwards.Given as goal

abbrev pub invariant-names : goal.invariant-names
invariant-names l = l.copies ≡ sets.from_list (lent (take l.name-index l.names))
