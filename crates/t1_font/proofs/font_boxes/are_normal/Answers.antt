use Rattle.std.proofs.Common.{◌∙◌}
use Rattle.t1_font.specs.NormalTexts.{same_both, normal_clear}
use Rattle.t1_font.proofs.font_boxes.are_normal.Goals as goal

pub returns : goal.returns
returns c =
    c.same_both.ensures
    ∙ ((λ i. same_both (c.in_ok-normal.ensures i) (c.as_slice-head.result.now, c.as_slice-clear_tail.result.now))
    ∙ (λ i. same_both (normal_clear (c.as_slice-head.ensures.value i, c.as_slice-clear_tail.ensures.value i))
    (c.as_slice-head.ensures.value i, c.as_slice-clear_tail.ensures.value i)))
