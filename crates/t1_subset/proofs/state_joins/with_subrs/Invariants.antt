use Rattle.std.specs.FinMap as maps
use Rattle.t1_join.specs.TableMeaning.{joined_table}
use Rattle.t1_font.proofs.Weights.{Summing}
use Rattle.t1_algebra.specs.StateTables.{subr_adds}
use Rattle.t1_subset.proofs.state_joins.with_subrs.Given as goal

abbrev pub invariant-entries : goal.invariant-entries
invariant-entries l = Summing subr_adds (maps.entries (joined_table l.fn.own l.fn.other)) l.before l.weight l.body-iterator
