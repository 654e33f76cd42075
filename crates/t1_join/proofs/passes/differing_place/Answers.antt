use Rattle.std.{proofs.Common.{sym, ◌∙◌}, specs.FinMap.{entries}}
use Rattle.t1_join.{specs.Meaning.{same_meaning}, proofs.TablePasses.{meets_later, meets_above, meets_same}}
use Rattle.t1_join.proofs.passes.differing_place.Goals as goal

pub pass-preserved-in-Less : goal.pass-preserved-in-Less
pass-preserved-in-Less g c =
    let t = g.T.SortedTable in let both = c.in-Some-Some in
    sym (meets_later t.order (entries (t.table c.args.first)) (entries (t.table c.args.second)) c.pass.i c.pass.j same_meaning
    (t.entry both.one) (t.entry both.other) (sym both.ensures.entry) (sym both.ensures'.entry) (sym c.in-Less.ensures)) ∙ c.pass.invariant

pub pass-preserved-in-Greater : goal.pass-preserved-in-Greater
pass-preserved-in-Greater g c =
    let t = g.T.SortedTable in let both = c.in-Some-Some in
    sym (meets_above t.order (entries (t.table c.args.first)) (entries (t.table c.args.second)) c.pass.i c.pass.j same_meaning
    (t.entry both.one) (t.entry both.other) (sym both.ensures.entry) (sym both.ensures'.entry) (sym c.in-Greater.ensures)) ∙ c.pass.invariant

pub pass-preserved : goal.pass-preserved
pass-preserved g c =
    let t = g.T.SortedTable in let both = c.in-Some-Some in
    sym (meets_same t.order (entries (t.table c.args.first)) (entries (t.table c.args.second)) c.pass.i c.pass.j same_meaning
    (t.entry both.one) (t.entry both.other) (sym both.ensures.entry) (sym both.ensures'.entry) (sym c.in-Equal.ensures)
    (sym c.if-not-same.ensures)) ∙ c.pass.invariant
