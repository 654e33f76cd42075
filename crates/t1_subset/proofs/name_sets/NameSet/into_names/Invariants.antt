use Rattle.std.proofs.Common.{◌≡◌, ◌++◌}
use Rattle.t1_subset.proofs.name_sets.NameSet.into_names.Given as goal

abbrev pub invariant-names : goal.invariant-names
invariant-names l = l.names.items ++ l.name-iterator ≡ l.initial.name-iterator
