use Rattle.std.proofs.Common.{ap, ◌∙◌}
use Rattle.t1_font.{specs.{FontValue.{FontValue, weight, texts_weight, total}, FontModel.{clamp}, Ranges.{subr_at_weight, glyph_at_weight}}, proofs.Weights.{source_weighs, clamp_each}}
use Rattle.t1_font.proofs.source.SourceParts.weight.Goals as goal

pub returns : goal.returns
returns c =
    let shell = c.self.inside.shell in
    let subrs = rw (c.as_slice.ensures.value, c.len_iv-len_iv.ensures) at c.subrs_weight-with_subrs.ensures in
    let glyphs = rw (c.as_slice-2.ensures.value, c.len_iv-len_iv.ensures) at c.glyphs_weight.ensures in
    clamp_each (texts_weight shell) (total (subr_at_weight shell.len_iv) c.self.inside.subrs.items)
    (total (glyph_at_weight shell.len_iv) c.self.inside.glyphs.items) _ _ _ c.texts_weight.ensures subrs glyphs
    ∙ ap clamp (source_weighs shell c.self.inside.buffer.items c.self.inside.subrs.items c.self.inside.glyphs.items
    c.self.invariant.subrs_inside c.self.invariant.glyphs_inside c.self.invariant.subrs_rise c.self.invariant.glyphs_rise)
    ∙ ap (λ (v : FontValue). clamp (weight v)) c.self.view_is
