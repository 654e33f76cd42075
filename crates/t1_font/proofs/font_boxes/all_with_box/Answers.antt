use Rattle.std.{proofs.{Common.{◌++◌, ◌∷◌, [], List, map, sym, ap, ◌∙◌}, lemmas.List.{nil_from_length}}, specs.Vec.Iter.{into_iter_items}}
use Rattle.t1_font.specs.{FontValue.{FontValue}, FontBoxes.{if_can}}
use Rattle.t1_font.proofs.Drains.{moved, all_moved}
use Rattle.t1_text.specs.BoxViews.{box_view}
use Rattle.t1_font.proofs.font_boxes.all_with_box.Goals as goal

pub sources-init : goal.sources-init
sources-init c = ap (λ (items : List FontValue). items ++ map (if_can (box_view c.args.sides)) (into_iter_items c.into_iter-source-iterator.result))
    c.in_ok-all.ensures.items

pub sources-preserved : goal.sources-preserved
sources-preserved c =
    let g = if_can (box_view c.args.sides) in
    moved c.sources.all.items (map g (into_iter_items c.sources.source-iterator))
    (map g (into_iter_items c.into_iter-source-iterator.result)) c.sources.invariant
    c.push_item.new.items.items (map g (into_iter_items c.next.new.self)) (g c.in-Some.source)
    (c.in_ok-push_item.ensures.added ∙ ap (λ (f : FontValue). c.sources.all.items ++ f ∷ []) c.in-Ok.ensures)
    (ap (map g) c.in-Some.ensures.steps.0)

pub returns : goal.returns
returns c =
    let g = if_can (box_view c.args.sides) in
    all_moved c.sources.all.items (map g (into_iter_items c.sources.source-iterator))
    (map g (into_iter_items c.into_iter-source-iterator.result)) c.sources.invariant
    (ap (map g) (nil_from_length (into_iter_items c.sources.source-iterator) (sym c.sources.source-iterator.rest.ok.0 ∙ c.in-None.ensures.steps.0)))
    ∙ ap (map g) c.into_iter-source-iterator.ensures.into_iter_gives.0
