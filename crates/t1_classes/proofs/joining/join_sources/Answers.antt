use Rattle.std.proofs.Common.{◌≡◌, ◌∙◌, subst, List, Some}
use Rattle.std.specs.Option.{option_map}
use Rattle.t1_font.specs.FontValue.{FontValue}
use Rattle.t1_classes.{specs.Joining.{font_text, rejoined}, proofs.Rejoined.{text_joins}}
use Rattle.t1_classes.proofs.joining.join_sources.Goals as goal

pub returns-in-Ok : goal.returns-in-Ok
returns-in-Ok c =
    subst (λ (fonts : List FontValue). option_map font_text (rejoined fonts) ≡ Some c.in-Ok.text.items)
    (c.as_slice.ensures.value ∙ c.in_ok-normalized.ensures) (text_joins c.as_slice.result.now c.in-Ok.text.items c.in-Ok.ensures.text)
