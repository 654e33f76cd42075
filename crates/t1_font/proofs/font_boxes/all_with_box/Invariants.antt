use Rattle.std.{proofs.Common.{◌≡◌, ◌++◌, map}, specs.Vec.Iter.{into_iter_items}}
use Rattle.t1_font.specs.FontBoxes.{if_can}
use Rattle.t1_text.specs.BoxViews.{box_view}
use Rattle.t1_font.proofs.font_boxes.all_with_box.Given as goal

abbrev pub invariant-sources : goal.invariant-sources
invariant-sources l =
    l.all.items ++ map (if_can (box_view l.sides)) (into_iter_items l.source-iterator)
    ≡ map (if_can (box_view l.sides)) (into_iter_items l.initial.source-iterator)
