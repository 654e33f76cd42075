use Rattle.std.proofs.Common.{rules, ◌≡◌, None, ℕ, take, sym, ap, ◌∙◌}
use Rattle.t1_text.specs.{Boxes.{font_box}, BoxViews.{numbers_view}}
use Rattle.t1_text.proofs.BoxTexts.{box_read, not_opened, not_four, not_closed}
use Rattle.t1_text.proofs.box_places.font_box_at.Goals as goal

pub returns-in_err-bracket : goal.returns-in_err-bracket
returns-in_err-bracket c =
    let none : None ≡ font_box.read c.args.bytes.now = not_opened c.args.bytes.now c.in_err-bracket.ensures in
    search (rules, none)

pub returns-in_err-numbers : goal.returns-in_err-numbers
returns-in_err-numbers c =
    let none : None ≡ font_box.read c.args.bytes.now =
    not_four c.args.bytes.now c.in_ok-bracket.bracket.now c.in_ok-bracket.inside.now c.in_ok-bracket.ensures c.in_err-numbers.ensures in
    search (rules, none)

pub returns-then-not-closes : goal.returns-then-not-closes
returns-then-not-closes c =
    not_closed c.args.bytes.now c.in_ok-bracket.bracket.now c.in_ok-bracket.inside.now (numbers_view c.in_ok-numbers.numbers) c.in_ok-numbers.rest.now
    c.in_ok-bracket.ensures c.in_ok-numbers.ensures (sym c.closes.ensures ∙ c.if-not-closes.true)

pub returns : goal.returns
returns c =
    box_read c.args.bytes.now c.in_ok-bracket.bracket.now c.in_ok-bracket.inside.now c.split_at.result.0.now (numbers_view c.in_ok-numbers.numbers)
    c.in_ok-numbers.rest.now c.in_ok-bracket.ensures (c.split_at.ensures.front ∙ ap (λ (n : ℕ). take n c.args.bytes.now) c.saturating_sub.ensures)
    c.in_ok-numbers.ensures (sym c.closes.ensures ∙ c.if-not-closes.false)
