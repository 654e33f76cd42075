use Rattle.std.{proofs.{Common.{rules, sym, ◌∙◌, true≢false}, lemmas.Fn.{always_returns_same}, lemmas.List.MinMax.{ranks_by}, lemmas.List.Sorted.{IsPermutation-map}}, specs.Ordering.{is_lt}}
use Rattle.t1_join.{specs.TableMeaning.{entry_meanings, pair_meaning}, proofs.{EntryLemmas.{sorted_meanings}, AnyOrder.{table_of, still_apart, rise_from_sorted}}}
use Rattle.t1_join.proofs.tables.Table.of_entries.Goals as goal

pub invariant_of-result : goal.invariant_of-result
invariant_of-result g c =
    sorted_meanings g.K.Kept.meaning g.V.Kept.meaning g.K.Ord.cmp g.met.K.Key.by_meaning c.sort_unstable_by.new.self.items
    (rw c.as_slice.ensures.value at (c.keys_rise.ensures.0 c.if-keys_rise.true))

pub returns-then-keys_rise : goal.returns-then-keys_rise
returns-then-keys_rise g c =
    table_of (entry_meanings g.K.Kept.meaning g.V.Kept.meaning c.args.entries.items)
    (entry_meanings g.K.Kept.meaning g.V.Kept.meaning c.sort_unstable_by.new.self.items)
    (IsPermutation-map
    (pair_meaning g.K.Kept.meaning g.V.Kept.meaning) c.args.entries.items c.sort_unstable_by.new.self.items c.sort_unstable_by.ensures.permutation)
    (sorted_meanings g.K.Kept.meaning g.V.Kept.meaning g.K.Ord.cmp g.met.K.Key.by_meaning c.sort_unstable_by.new.self.items
    (rw c.as_slice.ensures.value at (c.keys_rise.ensures.0 c.if-keys_rise.true)))

pub returns-else-keys_rise : goal.returns-else-keys_rise
returns-else-keys_rise g c = λ apart.
    let ordered = c.sort_unstable_by.ensures.sorted (λ x y. is_lt (g.K.Ord.cmp x.0 y.0))
    (ranks_by g.met.K.Ord.total (λ e. e.0)) (always_returns_same _ _ _ (λ a r f' called. search rules)) in
    let still = still_apart (entry_meanings g.K.Kept.meaning g.V.Kept.meaning c.args.entries.items)
    (entry_meanings g.K.Kept.meaning g.V.Kept.meaning c.sort_unstable_by.new.self.items)
    (IsPermutation-map
    (pair_meaning g.K.Kept.meaning g.V.Kept.meaning) c.args.entries.items c.sort_unstable_by.new.self.items c.sort_unstable_by.ensures.permutation) apart in
    let rise = rise_from_sorted g.K.Kept.meaning g.V.Kept.meaning g.K.Ord.cmp
    g.met.K.Key.by_meaning g.met.K.Ord.total c.sort_unstable_by.new.self.items ordered still in
    true≢false (sym (c.keys_rise.ensures.1 (rw c.as_slice.ensures.value rise)) ∙ c.if-keys_rise.false)
