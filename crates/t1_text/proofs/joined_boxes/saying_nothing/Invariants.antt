use Rattle.std.{proofs.Common.{◌≡◌, map, take}, specs.Prelude.{filter}}
use Rattle.t1_text.specs.{Boxes.{says_nothing}, BoxViews.{box_view}}
use Rattle.t1_text.proofs.joined_boxes.saying_nothing.Given as goal

abbrev pub invariant-boxes : goal.invariant-boxes
invariant-boxes l = map box_view l.found.items ≡ filter says_nothing (map box_view (take l.sides-index l.boxes))
