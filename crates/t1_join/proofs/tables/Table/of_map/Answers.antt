use Rattle.std.proofs.Common.{◌≡◌, ◌++◌, sym, ap, ◌∙◌, append-nil}
use Rattle.t1_join.{specs.TableMeaning.{meaning_of_entries}, proofs.EntryLemmas.{sorted_meanings, map_of_sorted}}
use Rattle.t1_join.proofs.tables.Table.of_map.Goals as goal

pub invariant_of-result : goal.invariant_of-result
invariant_of-result g c =
    let drained : c.loop-entry.entries.items ≡ c.args.map.entries =
    sym (append-nil c.loop-entry.entries.items) ∙ ap (λ r. c.loop-entry.entries.items ++ r) (sym c.in-None.ensures.steps.0) ∙ c.loop-entry.invariant in
    rw drained (sorted_meanings g.K.Kept.meaning g.V.Kept.meaning g.K.Ord.cmp g.met.K.Key.by_meaning c.args.map.entries c.len.ensures.ordered)

pub returns : goal.returns
returns g c =
    let drained : c.loop-entry.entries.items ≡ c.args.map.entries =
    sym (append-nil c.loop-entry.entries.items) ∙ ap (λ r. c.loop-entry.entries.items ++ r) (sym c.in-None.ensures.steps.0) ∙ c.loop-entry.invariant in
    ap (meaning_of_entries g.K.Kept.meaning g.V.Kept.meaning) drained
    ∙ map_of_sorted g.K.Kept.meaning g.V.Kept.meaning g.K.Ord.cmp g.met.K.Key.by_meaning c.args.map.entries c.len.ensures.ordered
