use Rattle.std.proofs.Common.{◌≡◌, ◌∷◌, map, drop}
use Rattle.t1_text.specs.{Boxes.{held}, BoxViews.{box_view}}
use Rattle.t1_text.proofs.joined_boxes.held_with.Given as goal

abbrev pub invariant-boxes : goal.invariant-boxes
invariant-boxes l = held (box_view l.joined ∷ map box_view (drop l.sides-index l.others)) ≡ held (box_view l.first ∷ map box_view l.others)
