use Rattle.std.proofs.Common.{◌≡◌, drop}
use Rattle.t1_subset.specs.{ClosureNames.{push_all}, NameSets.{lent}}
use Rattle.t1_subset.proofs.closure_names.ClosureNames.add_all.Given as goal

abbrev pub invariant-names : goal.invariant-names
invariant-names l = push_all l.self (lent (drop l.name-index l.names)) ≡ push_all l.initial.self (lent l.names)
