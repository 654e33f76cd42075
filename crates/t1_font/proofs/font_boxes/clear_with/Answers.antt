use Rattle.std.proofs.Common.{◌≡◌, ℕ, List, sym, ap, ◌∙◌}
use Rattle.t1_font.specs.{declared.source.SourceParts.TheInside.{Inside}, FontValue.{FontValue}, FontBoxes.{clear_of, can_take}, BoxViews.{side_view}}
use Rattle.t1_text.specs.BoxViews.{box_view}
use Rattle.t1_font.proofs.normal_fonts.BoxFonts.{answers_texts, answers_none}
use Rattle.t1_font.proofs.font_boxes.clear_with.Goals as goal

pub returns-then-branch : goal.returns-then-branch
returns-then-branch c =
    let u = box_view c.args.sides in
    let f : FontValue = c.args.parts.now in
    let s = side_view c.in-Some.side in
    let x : List ℕ × List ℕ = (c.as_slice-head.result.now, c.as_slice-clear_tail.result.now) in
    let old : List ℕ × List ℕ = (c.in_ok-texts.texts.head.items, c.in_ok-texts.texts.clear_tail.items) in
    let new : List ℕ × List ℕ = (c.can_take.new.texts.head.items, c.can_take.new.texts.clear_tail.items) in
    let same : new ≡ old = λ i. (c.in_ok-can_take.ensures.1 i, c.in_ok-can_take.ensures.2 i) in
    answers_texts u f x new s
    ((λ i. (c.as_slice-head.ensures.value i, c.as_slice-clear_tail.ensures.value i))
    ∙ (ap (λ (v : Inside). clear_of v.shell) c.parts-inside.view_is ∙ ap (λ (v : FontValue). clear_of v.shell) c.parts.view_is))
    c.in-Some.ensures (same ∙ c.in_ok-texts.ensures)
    (ap (λ (v : List ℕ × List ℕ). can_take u f v s) same ∙ (sym c.in_ok-can_take.ensures.0 ∙ c.if-branch.true))

pub returns-else-branch : goal.returns-else-branch
returns-else-branch c =
    let u = box_view c.args.sides in
    let f : FontValue = c.args.parts.now in
    let s = side_view c.in-Some.side in
    let x : List ℕ × List ℕ = (c.as_slice-head.result.now, c.as_slice-clear_tail.result.now) in
    let old : List ℕ × List ℕ = (c.in_ok-texts.texts.head.items, c.in_ok-texts.texts.clear_tail.items) in
    let new : List ℕ × List ℕ = (c.can_take.new.texts.head.items, c.can_take.new.texts.clear_tail.items) in
    let same : new ≡ old = λ i. (c.in_ok-can_take.ensures.1 i, c.in_ok-can_take.ensures.2 i) in
    answers_none u f x new s
    ((λ i. (c.as_slice-head.ensures.value i, c.as_slice-clear_tail.ensures.value i))
    ∙ (ap (λ (v : Inside). clear_of v.shell) c.parts-inside.view_is ∙ ap (λ (v : FontValue). clear_of v.shell) c.parts.view_is))
    c.in-Some.ensures (same ∙ c.in_ok-texts.ensures)
    (ap (λ (v : List ℕ × List ℕ). can_take u f v s) same ∙ (sym c.in_ok-can_take.ensures.0 ∙ c.if-branch.false))
