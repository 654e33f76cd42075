use Rattle.std.proofs.Common.{sym, ◌∙◌}
use Rattle.t1_font.specs.FontBoxes.{can_have}
use Rattle.t1_font.proofs.normal_fonts.BoxLists.{all_fails, all_more}
use Rattle.t1_text.specs.BoxViews.{box_view}
use Rattle.t1_font.proofs.font_boxes.all_can_have.Goals as goal

pub returns-then-not-branch : goal.returns-then-not-branch
returns-then-not-branch c =
    all_fails (can_have (box_view c.args.sides)) c.args.sources.now c.sources.source-index c.source-item.result c.sources-test.true c.source-item.is
    (sym c.in_ok-can_have.ensures ∙ c.if-not-branch.true) c.sources.invariant

pub sources-preserved : goal.sources-preserved
sources-preserved c =
    all_more (can_have (box_view c.args.sides)) c.args.sources.now c.sources.source-index c.source-item.result c.sources-test.true c.source-item.is
    (sym c.in_ok-can_have.ensures ∙ c.if-not-branch.false) c.sources.invariant
