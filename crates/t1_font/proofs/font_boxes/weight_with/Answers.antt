use Rattle.std.proofs.Common.{List, ℕ, ap, ◌∙◌}
use Rattle.t1_font.specs.{FontValue.{FontValue, weight, texts_weight, total}, FontModel.{clamp}, Ranges.{subr_at_weight, glyph_at_weight}, FontBoxes.{with_clear, with_texts}}
use Rattle.t1_font.proofs.Weights.{source_weighs, clamp_each}
use Rattle.t1_font.proofs.font_boxes.weight_with.Goals as goal

pub returns : goal.returns
returns c =
    let x : List ℕ × List ℕ = (c.args.texts.now.head.items, c.args.texts.now.clear_tail.items) in
    let shell = with_clear c.parts.inside.shell x in
    let subrs = rw (c.as_slice.ensures.value, c.len_iv-len_iv.ensures) at c.subrs_weight-with_subrs.ensures in
    let glyphs = rw (c.as_slice-2.ensures.value, c.len_iv-len_iv.ensures) at c.glyphs_weight.ensures in
    clamp_each (texts_weight shell) (total (subr_at_weight shell.len_iv) c.parts.inside.subrs.items)
    (total (glyph_at_weight shell.len_iv) c.parts.inside.glyphs.items) _ _ _ c.texts_weight-weight.ensures subrs glyphs
    ∙ ap clamp (source_weighs shell c.parts.inside.buffer.items c.parts.inside.subrs.items c.parts.inside.glyphs.items
    c.parts.invariant.subrs_inside c.parts.invariant.glyphs_inside c.parts.invariant.subrs_rise c.parts.invariant.glyphs_rise)
    ∙ ap (λ (v : FontValue). clamp (weight (with_texts v x))) c.parts.view_is
