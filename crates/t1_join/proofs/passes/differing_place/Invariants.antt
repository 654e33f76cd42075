use Rattle.std.{proofs.Common.{◌≡◌}, specs.FinMap.{entries}}
use Rattle.t1_join.{specs.Meaning.{same_meaning}, proofs.TablePasses.{meets, left}}
use Rattle.t1_join.proofs.passes.differing_place.Given as goal

abbrev pub invariant-pass : goal.invariant-pass
invariant-pass g l =
    let t = g.T.SortedTable in
    let es = entries (t.table l.first) in let fs = entries (t.table l.second) in
    meets t.order es fs same_meaning l.i l.j ≡ meets t.order es fs same_meaning 0 0

abbrev pub decreases-pass : goal.decreases-pass
decreases-pass g l = let t = g.T.SortedTable in left (entries (t.table l.first)) (entries (t.table l.second)) l.i l.j
