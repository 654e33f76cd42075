use Rattle.std.{proofs.Common.{◌≡◌, ◌≤◌, subst, sym, ◌∙◌}, specs.FinMap.{len}}
use Rattle.t1_font.{specs.{FontValue.{FontValue, weight, count_limit, weight_limit}, Joins.{join_parts}, IsFont.{IsFont}}, proofs.Kept.{join_is_font}}
use Rattle.t1_font.proofs.parts.join_parts.Goals as goal

pub invariant_of-result : goal.invariant_of-result
invariant_of-result c =
    let f = c.args.first.now in
    let g = c.args.second.now in
    let is : c.in_ok-parts.parts ≡ join_parts f g = c.in_ok-parts.ensures ∙ (λ i. join_parts (c.first.view_is i) (c.second.view_is i)) in
    subst IsFont (sym is)
    (join_is_font f g c.proof_is_font.ensures c.proof_is_font-2.ensures c.requires.shells c.requires.encodings
    (subst (λ (p : FontValue). len p.glyphs ≤ count_limit) is (c.is_over_limits.ensures.few c.if-is_over_limits.false))
    (subst (λ (p : FontValue). weight p ≤ weight_limit) is (c.is_over_limits.ensures.light c.if-is_over_limits.false)))
