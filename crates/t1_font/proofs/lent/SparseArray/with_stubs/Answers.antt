use Rattle.std.{proofs.{Common.{◌++◌, ap, sym, ◌∙◌, map, List, ℕ}, lemmas.Map.Iter.{rest_all}}, specs.{Cmp.{nat_cmp_total}, FinMap.{nat_cmp-IsAntisymmetric}}}
use Rattle.t1_join.proofs.{Sorted.{rises_of, map_of}, TablePasses.{all_out}}
use Rattle.t1_font.{specs.{Lent.{lent_number}, MadeTables.{entry_or_stub}, Maps.{map_values}}, proofs.MapLemmas.{entries-map_values}}
use Rattle.t1_font.proofs.lent.SparseArray.with_stubs.Goals as goal

pub present-init : goal.present-init
present-init c =
    let f : ℕ → List ℕ → List ℕ = λ i b. entry_or_stub c.args.table.now i in
    (λ k. map lent_number (c.in_ok-all.ensures.items k) ++ map (λ e. (e.0, f e.0 e.1))
    ((c.into_iter-index-iterator.ensures.into_iter_gives ∙ c.entries-index-items.ensures) k))
    ∙ sym (entries-map_values nat_cmp_total nat_cmp-IsAntisymmetric f c.args.numbers.now)

pub made-requires : goal.made-requires
made-requires c =
    let f : ℕ → List ℕ → List ℕ = λ i b. entry_or_stub c.args.table.now i in
    rises_of _ (map_values f c.args.numbers.now) (all_out lent_number c.present.all.items _ _
    (ap (map (λ e. (e.0, f e.0 e.1))) (rest_all lent_number _ _ _ c.in-None.is c.next.ensures.steps)) c.present.invariant)

pub returns : goal.returns
returns c =
    let f : ℕ → List ℕ → List ℕ = λ i b. entry_or_stub c.args.table.now i in
    c.made.ensures ∙ map_of _ (map_values f c.args.numbers.now) (all_out lent_number c.present.all.items _ _
    (ap (map (λ e. (e.0, f e.0 e.1))) (rest_all lent_number _ _ _ c.in-None.is c.next.ensures.steps)) c.present.invariant)
