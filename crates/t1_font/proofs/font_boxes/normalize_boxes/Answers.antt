use Rattle.std.{proofs.Common.{◌≡◌, true, Some, sym, ap, ◌∙◌, List, map}, specs.{Option.{option_map}, List.{list_all}}}
use Rattle.t1_font.specs.{FontValue.{FontValue}, FontBoxes.{can_have, if_can, boxes_of, boxed}, BoxViews.{wanted_box}}
use Rattle.t1_text.specs.{Boxes.{Box, joined_box}, BoxViews.{box_view, kept_view}}
use Rattle.t1_font.proofs.normal_fonts.BoxLists.{boxed_so, same_fonts, unwanted, wanted}
use Rattle.t1_font.proofs.font_boxes.normalize_boxes.Goals as goal

pub returns-in-Ok-true : goal.returns-in-Ok-true
returns-in-Ok-true c =
    let fs : List FontValue = c.args.sources.items in
    let u : Box = kept_view c.in-Ok-Some.joined in
    let one : Some u ≡ option_map joined_box (boxes_of fs) =
    wanted fs u (sym (ap (option_map kept_view) c.in-Ok-Some.field-0-is)
    ∙ (c.in-Ok-Some.ensures ∙ ap (λ (gs : List FontValue). wanted_box (boxes_of gs)) c.as_slice.ensures.value)) in
    let can : list_all (can_have u) fs ≡ true =
    sym (c.in-Ok-true.ensures ∙ (λ i. list_all (can_have (c.lent.ensures i)) (c.as_slice-2.ensures.value i))) ∙ c.in-Ok-true.field-0-test in
    same_fonts c.all_with_box.result (map (if_can (box_view c.lent-in-Ok-true.result)) fs) (boxed fs)
    (ap (λ (v : Box). map (if_can v) fs) c.lent-in-Ok-true.ensures ∙ boxed_so fs u one can) c.all_with_box.ensures

pub returns-in-Ok-None : goal.returns-in-Ok-None
returns-in-Ok-None c =
    let fs : List FontValue = c.args.sources.items in
    sym (unwanted fs (sym (ap (λ (gs : List FontValue). wanted_box (boxes_of gs)) c.as_slice.ensures.value)
    ∙ (sym c.in-Ok-None.ensures ∙ ap (option_map kept_view) c.in-Ok-None.field-0-is)))
