use Rattle.std.{proofs.{Common.{◌≡◌, ap, subst, ◌∙◌, map, List, ℕ}, lemmas.List.{drop_all}}, specs.{Prelude.{nat_lt, IfOk}, FinMap.{retain_keys}}}
use Rattle.t1_join.proofs.{Sorted.{rises_of, map_of}, TablePasses.{all_out}}
use Rattle.t1_font.{specs.{Normalizing.{stubs_at, below_count}, FontValue.{SparseArray}, Lent.{lent_number, stub_at}, Maps.{merged}}, proofs.FilledTables.{stubs_before}}
use Rattle.t1_font.proofs.filling.made_with_stubs.Goals as goal

pub made-stubs-requires : goal.made-stubs-requires
made-stubs-requires c =
    let n = c.args.declared in
    let js = c.args.indices.now in
    rises_of _ (retain_keys (stubs_at js) (λ i. nat_lt i n))
    (all_out lent_number c.indices.stubs.items _ _ (ap (λ (js : List ℕ). map stub_at (below_count n js))
    (drop_all c.indices.index-index js c.indices-test.false))
    c.indices.invariant ∙ stubs_before js c.requires n)

pub returns : goal.returns
returns c =
    let n = c.args.declared in
    let js = c.args.indices.now in
    subst (λ (m : SparseArray). IfOk c.join_codes.result (λ r. r ≡ merged c.args.subrs.now m))
    (c.made-stubs.ensures ∙ map_of _ (retain_keys (stubs_at js) (λ i. nat_lt i n))
    (all_out lent_number c.indices.stubs.items _ _ (ap (λ (js : List ℕ). map stub_at (below_count n js))
    (drop_all c.indices.index-index js c.indices-test.false))
    c.indices.invariant ∙ stubs_before js c.requires n))
    c.join_codes.ensures
