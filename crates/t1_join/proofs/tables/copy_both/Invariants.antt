use Rattle.std.proofs.Common.{◌≡◌, ◌++◌}
use Rattle.t1_join.specs.TableMeaning.{entry_meanings, joined_table}
use Rattle.std.specs.FinMap as fin
use Rattle.t1_join.proofs.tables.copy_both.Given as goal

abbrev pub invariant-loop-entry : goal.invariant-loop-entry
invariant-loop-entry g l = entry_meanings g.K.Kept.meaning g.V.Kept.meaning l.all.items ++ l.entry-iterator ≡ fin.entries (joined_table l.first l.second)
