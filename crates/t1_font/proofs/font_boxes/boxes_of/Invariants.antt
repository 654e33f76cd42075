use Rattle.std.{proofs.Common.{◌≡◌, ◌++◌, map, drop}, specs.Option.{option_map}}
use Rattle.t1_font.specs.FontBoxes.{boxes_of}
use Rattle.t1_text.specs.BoxViews.{box_view}
use Rattle.t1_font.proofs.font_boxes.boxes_of.Given as goal

abbrev pub invariant-sources : goal.invariant-sources
invariant-sources l =
    option_map (λ bs. map box_view l.boxes.items ++ bs) (boxes_of (drop l.source-index l.sources)) ≡ boxes_of l.sources
