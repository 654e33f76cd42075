use Rattle.std.proofs.Common.{map, length}
use Rattle.t1_join.specs.Passes.{merged_from}
use Rattle.t1_join.proofs.TablePasses.{Pushed}
use Rattle.t1_join.proofs.passes.push_both.Given as goal

abbrev pub invariant-pass : goal.invariant-pass
invariant-pass g l =
    let t = g.T.SortedTable in
    Pushed (merged_from (t.table l.fn.first) (t.table l.fn.second) l.fn.from_first l.fn.from_second) (map t.entry l.fn.all.items) (map t.entry l.all.items)
    (merged_from (t.table l.first) (t.table l.second) l.i l.j)

abbrev pub decreases-pass : goal.decreases-pass
decreases-pass g l = let t = g.T.SortedTable in length (merged_from (t.table l.first) (t.table l.second) l.i l.j)
