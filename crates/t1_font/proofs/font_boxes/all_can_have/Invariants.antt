use Rattle.std.{proofs.Common.{◌≡◌, drop}, specs.List.{list_all}}
use Rattle.t1_font.specs.FontBoxes.{can_have}
use Rattle.t1_text.specs.BoxViews.{box_view}
use Rattle.t1_font.proofs.font_boxes.all_can_have.Given as goal

abbrev pub invariant-sources : goal.invariant-sources
invariant-sources l = list_all (can_have (box_view l.sides)) (drop l.source-index l.sources) ≡ list_all (can_have (box_view l.sides)) l.sources
