use Rattle.std.proofs.Common.{◌≡◌, ℕ, nat_lt, ◌<◌, ◌≤◌, ap, sym, subst, ◌∙◌}
use Rattle.t1_font.specs.{FontValue.{FontValue, SparseArray, weight, weight_limit}, FontModel.{encoding_of, clamp}, Maps.{merged}}
use Rattle.t1_font.specs.{Normalizing.{stubs_at}, Filling.{with_subrs, filled_by}, IsFont.{IsFont}}
use Rattle.t1_font.proofs.{Weights.{clamp_light, clamp_heavy}, normal_fonts.Filled.{unfilled, parts_filled, filled_by_is_font}, normal_fonts.FilledWeights.{kept_stubs}}
use Rattle.t1_font.proofs.filling.fill.Goals as goal

-- what is said of a font with other Subrs is said of one that it equals
seen_so : (f h : FontValue) → f ≡ h → (m stubs : SparseArray) → m ≡ merged f.subrs stubs → (n : ℕ) →
    (m ≡ merged h.subrs stubs → n ≡ clamp (weight (with_subrs h m))) → n ≡ clamp (weight (with_subrs f m))
seen_so f h e m stubs is n said =
    said (is ∙ ap (λ (g : FontValue). merged g.subrs stubs) e) ∙ ap (λ (g : FontValue). clamp (weight (with_subrs g m))) (sym e)

pub returns-then-is_empty-clause-filled : goal.returns-then-is_empty-clause-filled
returns-then-is_empty-clause-filled c =
    let p = c.parts.inside in
    let f : FontValue = record { shell = p.shell.now; encoding = encoding_of p.encoding; subrs = p.subrs; glyphs = p.glyphs } in
    sym c.parts.view_is ∙ (unfilled (stubs_at c.args.indices.now) f (sym c.is_empty.ensures ∙ c.if-is_empty.true)
    ∙ ap (filled_by (stubs_at c.args.indices.now)) (c.parts.view_is ∙ c.font.view_is))

pub returns-then-filled_weight-gt-WEIGHT_LIMIT-clause-filled : goal.returns-then-filled_weight-gt-WEIGHT_LIMIT-clause-filled
returns-then-filled_weight-gt-WEIGHT_LIMIT-clause-filled c =
    let p = c.parts.inside in
    let f : FontValue = record { shell = p.shell.now; encoding = encoding_of p.encoding; subrs = p.subrs; glyphs = p.glyphs } in
    let g : FontValue = record { shell = p.shell.now; encoding = encoding_of p.encoding; subrs = c.in-Ok.subrs; glyphs = p.glyphs } in
    subst (λ (f : FontValue). weight_limit < weight f)
    (parts_filled (stubs_at c.args.indices.now) c.args.font f c.declared_count.result c.in-Ok.subrs
    (c.parts.view_is ∙ c.font.view_is) (sym c.is_empty.ensures ∙ c.if-is_empty.false) c.declared_count.ensures c.in-Ok.ensures)
    (clamp_heavy c.filled_weight.result (weight g)
    (seen_so f c.font.inside.parts c.parts.view_is c.in-Ok.subrs _ c.in-Ok.ensures c.filled_weight.result
    (c.filled_weight.ensures _ (kept_stubs c.args.indices.now (λ i. nat_lt i c.declared_count.result)))) c.if-filled_weight-gt-WEIGHT_LIMIT.true)

pub invariant_of-result-2 : goal.invariant_of-result-2
invariant_of-result-2 c =
    let p = c.parts.inside in
    let f : FontValue = record { shell = p.shell.now; encoding = encoding_of p.encoding; subrs = p.subrs; glyphs = p.glyphs } in
    let g : FontValue = record { shell = p.shell.now; encoding = encoding_of p.encoding; subrs = c.in-Ok.subrs; glyphs = p.glyphs } in
    let is : g ≡ filled_by (stubs_at c.args.indices.now) c.args.font =
    parts_filled (stubs_at c.args.indices.now) c.args.font f c.declared_count.result c.in-Ok.subrs
    (c.parts.view_is ∙ c.font.view_is) (sym c.is_empty.ensures ∙ c.if-is_empty.false) c.declared_count.ensures c.in-Ok.ensures in
    subst IsFont (sym is) (filled_by_is_font c.args.indices.now c.args.font (subst IsFont c.font.view_is c.font.invariant)
    (subst (λ (f : FontValue). weight f ≤ weight_limit) is (clamp_light c.filled_weight.result (weight g)
    (seen_so f c.font.inside.parts c.parts.view_is c.in-Ok.subrs _ c.in-Ok.ensures c.filled_weight.result
    (c.filled_weight.ensures _ (kept_stubs c.args.indices.now (λ i. nat_lt i c.declared_count.result)))) c.if-filled_weight-gt-WEIGHT_LIMIT.false)))

pub returns-clause-filled : goal.returns-clause-filled
returns-clause-filled c =
    let p = c.parts.inside in
    let f : FontValue = record { shell = p.shell.now; encoding = encoding_of p.encoding; subrs = p.subrs; glyphs = p.glyphs } in
    parts_filled (stubs_at c.args.indices.now) c.args.font f c.declared_count.result c.in-Ok.subrs
    (c.parts.view_is ∙ c.font.view_is) (sym c.is_empty.ensures ∙ c.if-is_empty.false) c.declared_count.ensures c.in-Ok.ensures

pub returns-clause-light : goal.returns-clause-light
returns-clause-light c =
    let p = c.parts.inside in
    let f : FontValue = record { shell = p.shell.now; encoding = encoding_of p.encoding; subrs = p.subrs; glyphs = p.glyphs } in
    let g : FontValue = record { shell = p.shell.now; encoding = encoding_of p.encoding; subrs = c.in-Ok.subrs; glyphs = p.glyphs } in
    clamp_light c.filled_weight.result (weight g)
    (seen_so f c.font.inside.parts c.parts.view_is c.in-Ok.subrs _ c.in-Ok.ensures c.filled_weight.result
    (c.filled_weight.ensures _ (kept_stubs c.args.indices.now (λ i. nat_lt i c.declared_count.result)))) c.if-filled_weight-gt-WEIGHT_LIMIT.false
