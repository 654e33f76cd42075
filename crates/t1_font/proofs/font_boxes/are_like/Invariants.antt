use Rattle.std.{proofs.Common.{◌≡◌, map, drop}, specs.List.{list_all}}
use Rattle.t1_text.specs.{Boxes.{same_box}, BoxViews.{box_view}}
use Rattle.t1_font.proofs.font_boxes.are_like.Given as goal

abbrev pub invariant-boxes : goal.invariant-boxes
invariant-boxes l =
    list_all (same_box (box_view l.sides)) (map box_view (drop l.other-index l.boxes)) ≡ list_all (same_box (box_view l.sides)) (map box_view l.boxes)
