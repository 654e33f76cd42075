use Rattle.std.proofs.Common.{◌≡◌, ◌++◌}
use Rattle.t1_join.proofs.tables.Table.of_map.Given as goal

abbrev pub invariant-loop-entry : goal.invariant-loop-entry
invariant-loop-entry g l = l.entries.items ++ l.entry-iterator ≡ l.fn.map.entries
