use Rattle.std.proofs.{Common.{rules}, lemmas.Fn.{always_returns_same}}
use Rattle.t1_join.proofs.AnyOrder.{rise_from_neighbours, neighbours_rise, is_less}
use Rattle.t1_join.proofs.tables.keys_rise.Goals as goal

pub returns : goal.returns
returns g c =
    let neighbours = c.is_sorted_by.ensures.cases (λ x y. is_less (g.K.Ord.cmp x.0 y.0)) (always_returns_same _ _ _ (λ a r f' called. search rules)) in (
      λ yes. rise_from_neighbours g.met.K.Ord.total c.args.entries.now c.is_sorted_by.result yes neighbours,
      λ rise. neighbours_rise g.K.Ord.cmp c.args.entries.now c.is_sorted_by.result neighbours rise,
    )
