use Rattle.std.{proofs.{Common.{◌++◌, nat_cmp, ap, sym, ◌∙◌, map, cond, List, ℕ}, lemmas.Map.Iter.{rest_all}}, specs.{BTreeSet.{contains}, Cmp.{nat_cmp_total}, FinMap.{nat_cmp-IsAntisymmetric}}}
use Rattle.t1_join.proofs.{Sorted.{rises_of, map_of}, TablePasses.{all_out}}
use Rattle.t1_font.{specs.{Lent.{lent_number}, Cut.{stub}, Maps.{map_values}}, proofs.MapLemmas.{entries-map_values}}
use Rattle.t1_font.proofs.cut.cut_subrs.Goals as goal

pub bodies-init : goal.bodies-init
bodies-init c =
    let f : ℕ → List ℕ → List ℕ = λ i b. cond (contains nat_cmp c.args.kept.now i) b stub in
    (λ k. map lent_number (c.in_ok-cut.ensures.items k) ++ map (λ e. (e.0, f e.0 e.1))
    ((c.into_iter-index-iterator.ensures.into_iter_gives ∙ c.entries-index-items.ensures) k))
    ∙ sym (entries-map_values nat_cmp_total nat_cmp-IsAntisymmetric f c.args.subrs.now)

pub made-requires : goal.made-requires
made-requires c =
    let f : ℕ → List ℕ → List ℕ = λ i b. cond (contains nat_cmp c.args.kept.now i) b stub in
    rises_of _ (map_values f c.args.subrs.now) (all_out lent_number c.bodies.cut.items _ _
    (ap (map (λ e. (e.0, f e.0 e.1))) (rest_all lent_number _ _ _ c.in-None.is c.next.ensures.steps)) c.bodies.invariant)

pub returns : goal.returns
returns c =
    let f : ℕ → List ℕ → List ℕ = λ i b. cond (contains nat_cmp c.args.kept.now i) b stub in
    c.made.ensures ∙ map_of _ (map_values f c.args.subrs.now) (all_out lent_number c.bodies.cut.items _ _
    (ap (map (λ e. (e.0, f e.0 e.1))) (rest_all lent_number _ _ _ c.in-None.is c.next.ensures.steps)) c.bodies.invariant)
