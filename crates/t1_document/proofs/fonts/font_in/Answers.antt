use Rattle.std.{proofs.Common.{◌≡◌, Option, sym, subst, IfOk}, specs.Option.{option_map}}
use Rattle.t1_document.{specs.{Fonts.{FontText}, Views.{font_view}}, proofs.FontLemmas.{left_within, shape_plain, font_in_is}}
use Rattle.t1_document.proofs.fonts.font_in.Goals as goal

pub font_before-requires-clause-within : goal.font_before-requires-clause-within
font_before-requires-clause-within c = left_within c.args.bytes.now c.in-Some.rest.now (sym c.in-Some.ensures)

pub font_before-requires-clause-flat : goal.font_before-requires-clause-flat
font_before-requires-clause-flat c = shape_plain c.args.bytes.now c.in-Some.rest.now (sym c.in-Some.ensures)

pub returns : goal.returns
returns c =
    subst (λ (f : Option FontText). IfOk c.font_before.result (λ o. option_map font_view o ≡ f))
    (sym (font_in_is c.args.bytes.now c.in-Some.rest.now (sym c.in-Some.ensures))) c.font_before.ensures
