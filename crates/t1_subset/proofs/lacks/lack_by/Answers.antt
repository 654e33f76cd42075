use Rattle.std.proofs.Common.{◌<◌, ◌≤◌, ◌∙◌, sym, arith}
use Rattle.t1_font.specs.FontValue.{declared_count}
use Rattle.t1_algebra.specs.Lacks.{lack_at}
use Rattle.t1_subset.{specs.Lacks.{lack_view}, proofs.Lacking.{shown_there, none_beyond, unused_lacks_none}}
use Rattle.t1_subset.proofs.lacks.lack_by.Goals as goal

pub returns-then-is_some : goal.returns-then-is_some
returns-then-is_some c =
    let below : c.indices.index < declared_count c.args.font.now.shell.subrs =
    omega (arith, c.indices-test.true, c.reached_below-index-end.ensures.places, c.count.ensures) in
    shown_there (lack_at c.args.fonts.now c.args.font.now) lack_view c.lack_at-lack.result c.indices.index _ c.indices.invariant c.lack_at-lack.ensures
    (sym c.is_some.ensures ∙ c.if-is_some.true) below

pub returns : goal.returns
returns c =
    let fs = c.args.fonts.now in
    let f = c.args.font.now in
    let end : c.reached_below-index-end.result ≤ c.indices.index = let past = c.indices-test.false in omega (arith, past) in
    let inside : c.indices.index ≤ declared_count f.shell.subrs =
    omega (arith, c.indices.auto.index-end, c.reached_below-index-end.ensures.places, c.count.ensures) in
    sym
    (none_beyond (lack_at fs f) c.indices.index (declared_count f.shell.subrs) c.indices.invariant inside
    (λ k from below. unused_lacks_none fs f k
    (sym (c.requires k below) ∙ c.reached_below-index-end.ensures.none k (omega (arith, from, end)) (omega (arith, below, c.count.ensures)))))
