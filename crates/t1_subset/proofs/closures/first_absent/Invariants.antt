use Rattle.std.{proofs.Common.{◌≡◌, drop, not}, specs.List.{find}}
use Rattle.t1_algebra.specs.Keep.{has}
use Rattle.t1_subset.specs.NameSets.{lent}
use Rattle.t1_subset.proofs.closures.first_absent.Given as goal

abbrev pub invariant-names : goal.invariant-names
invariant-names l = find (λ n. not (has l.font n)) (lent (drop l.name-index l.names)) ≡ find (λ n. not (has l.font n)) (lent l.names)
