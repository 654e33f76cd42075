use Rattle.std.{proofs.{Common.{◌++◌, ◌∷◌, ℕ, [], List, map, sym, ap, ◌∙◌}, lemmas.List.{nil_from_length}}, specs.Vec.Iter.{into_iter_items}}
use Rattle.t1_font.{specs.{FontValue.{FontValue}, Normalizing.{normal, largest_count}}, proofs.Drains.{moved, all_moved}}
use Rattle.t1_font.proofs.normalizing.each_normal.Goals as goal

pub sources-init : goal.sources-init
sources-init c = ap (λ (items : List FontValue). items ++ map (normal c.largest_count-declared.result) (into_iter_items c.into_iter-source-iterator.result))
    c.in_ok-all.ensures.items

pub sources-preserved : goal.sources-preserved
sources-preserved c =
    let n = c.largest_count-declared.result in
    moved c.sources.all.items (map (normal n) (into_iter_items c.sources.source-iterator))
    (map (normal n) (into_iter_items c.into_iter-source-iterator.result)) c.sources.invariant
    c.push_item.new.items.items (map (normal n) (into_iter_items c.next.new.self)) (normal n c.in-Some.source)
    (c.in_ok-push_item.ensures.added ∙ ap (λ (f : FontValue). c.sources.all.items ++ f ∷ []) c.in-Ok.ensures)
    (ap (map (normal n)) c.in-Some.ensures.steps.0)

pub returns : goal.returns
returns c =
    let n = c.largest_count-declared.result in
    all_moved c.sources.all.items (map (normal n) (into_iter_items c.sources.source-iterator))
    (map (normal n) (into_iter_items c.into_iter-source-iterator.result)) c.sources.invariant
    (ap (map (normal n)) (nil_from_length (into_iter_items c.sources.source-iterator) (sym c.sources.source-iterator.rest.ok.0 ∙ c.in-None.ensures.steps.0)))
    ∙ (ap (map (normal n)) c.into_iter-source-iterator.ensures.into_iter_gives.0
    ∙ ap (λ (m : ℕ). map (normal m) c.args.sources.items) (c.largest_count-declared.ensures ∙ ap largest_count c.as_slice.ensures.value))
