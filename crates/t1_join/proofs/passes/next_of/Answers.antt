use Rattle.std.{proofs.Common.{ap, sym, ◌∙◌}, specs.{FinMap.{entries}, Option.{option_map}}}
use Rattle.t1_join.proofs.TablePasses.{second_alone, first_lower, second_lower}
use Rattle.t1_join.proofs.passes.next_of.Goals as goal

pub returns-in-None-Some : goal.returns-in-None-Some
returns-in-None-Some g c =
    let t = g.T.SortedTable in
    second_alone t.order (entries (t.table c.args.first)) (entries (t.table c.args.second)) c.args.i c.args.j (t.entry c.in-None-Some.other)
    (sym c.at.ensures.entry ∙ ap (option_map t.entry) c.in-None-Some.is-0) (sym c.in-None-Some.ensures.entry)

pub returns-in-Less : goal.returns-in-Less
returns-in-Less g c =
    let t = g.T.SortedTable in
    let both = c.in-Some-Some in
    first_lower t.order (entries (t.table c.args.first)) (entries (t.table c.args.second)) c.args.i c.args.j
    (t.entry both.one) (t.entry both.other) (sym both.ensures.entry) (sym both.ensures'.entry) (sym c.in-Less.ensures)

pub returns-in-Greater : goal.returns-in-Greater
returns-in-Greater g c =
    let t = g.T.SortedTable in
    let both = c.in-Some-Some in
    second_lower t.order (entries (t.table c.args.first)) (entries (t.table c.args.second)) c.args.i c.args.j
    (t.entry both.one) (t.entry both.other) (sym both.ensures.entry) (sym both.ensures'.entry) (sym c.in-Greater.ensures)
