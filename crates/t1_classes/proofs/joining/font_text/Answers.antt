use Rattle.std.proofs.{Common.{[], ◌∷◌, ◌-◌, length, take, arith, ap, ◌∙◌}, lemmas.List.{length-append, take_at}}
use Rattle.t1_classes.{specs.Joining.{font_text}, proofs.FontTexts.{font_text_is}}
use Rattle.t1_classes.proofs.joining.font_text.Goals as goal

pub returns : goal.returns
returns c =
    let text = font_text c.args.font.now in
    let whole = c.in_ok-text.ensures.canon ∙ font_text_is c.args.font.now in
    c.pop.ensures.rest
    ∙ (ap (take (c.in_ok-text.text.len - 1)) whole
    ∙ take_at text (10 ∷ []) (c.in_ok-text.text.len - 1) (omega (arith, c.in_ok-text.text.ok, ap length whole, length-append text (10 ∷ []))))
