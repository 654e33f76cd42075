use Rattle.std.proofs.Common.{◌≡◌, sym, ap, subst, ◌∙◌, arith}
use Rattle.t1_font.specs.{declared.source.Source.TheInside.{Inside}, FontValue.{FontValue}, IsFont.{IsFont}, Sources.{source_value}, Normalizing.{normal, normal_shell}}
use Rattle.t1_font.proofs.normal_fonts.Normalized.{normal_is_font}
use Rattle.t1_font.proofs.source.Source.normalize.Goals as goal

pub invariant_of-result : goal.invariant_of-result
invariant_of-result c =
    let p : FontValue = source_value c.parts.inside in
    let lent : source_value c.self-inside.inside.0.0 ≡ c.self.inside.parts = ap (λ (s : Inside). s.parts) c.self-inside.view_is in
    let shell = c.in-Ok.ensures ∙ ap (λ (f : FontValue). normal_shell c.args.declared f.shell) (lent ∙ sym c.parts.view_is) in
    subst IsFont (sym (λ i. record { shell = shell i; encoding = p.encoding; subrs = p.subrs; glyphs = p.glyphs }))
    (normal_is_font c.args.declared p (omega (arith, c.ranges.declared.fits)) (subst IsFont (sym c.parts.view_is) c.self.invariant))

pub returns : goal.returns
returns c =
    let p : FontValue = source_value c.parts.inside in
    let lent : source_value c.self-inside.inside.0.0 ≡ c.self.inside.parts = ap (λ (s : Inside). s.parts) c.self-inside.view_is in
    let shell = c.in-Ok.ensures ∙ ap (λ (f : FontValue). normal_shell c.args.declared f.shell) (lent ∙ sym c.parts.view_is) in
    (λ i. record { shell = shell i; encoding = p.encoding; subrs = p.subrs; glyphs = p.glyphs })
    ∙ ap (normal c.args.declared) (c.parts.view_is ∙ c.self.view_is)
