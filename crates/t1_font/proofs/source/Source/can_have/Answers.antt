use Rattle.std.proofs.Common.{ℕ, List, ap, ◌∙◌}
use Rattle.t1_font.specs.{declared.normal_texts.ClearTexts.{ClearTexts}, FontBoxes.{clear_with, can_have}}
use Rattle.t1_font.proofs.normal_fonts.BoxLists.{some_so}
use Rattle.t1_text.specs.BoxViews.{box_view}
use Rattle.t1_font.proofs.source.Source.can_have.Goals as goal

-- the two texts that were made
abbrev both : ClearTexts → List ℕ × List ℕ
both x = (x.head.items, x.clear_tail.items)

pub returns : goal.returns
returns c =
    let u = box_view c.args.sides in
    let f = c.self.inside.parts in
    c.is_some.ensures ∙ (some_so both (can_have u f) c.in_ok-texts.texts (clear_with u f.shell) c.in_ok-texts.ensures ∙ ap (can_have u) c.self.view_is)
