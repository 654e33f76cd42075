use Rattle.std.{proofs.Common.{◌≡◌, map, drop}, specs.List.{list_any}}
use Rattle.t1_text.specs.{Boxes.{says_nothing}, BoxViews.{box_view}}
use Rattle.t1_text.proofs.joined_boxes.any_says_nothing.Given as goal

abbrev pub invariant-boxes : goal.invariant-boxes
invariant-boxes l = list_any says_nothing (map box_view (drop l.sides-index l.boxes)) ≡ list_any says_nothing (map box_view l.boxes)
