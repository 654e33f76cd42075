use Rattle.std.proofs.Common.{◌≡◌, ◌+◌, ◌*◌, ◌-◌, ℕ, min, sym, ap, ◌∙◌, arith}
use Rattle.t1_font.{specs.{FontValue.{FontValue, weight}, FontModel.{clamp}}, proofs.normal_fonts.FilledWeights.{filled_weighs}}
use Rattle.std.specs.FinMap as fin
use Rattle.t1_font.proofs.filling.filled_weight.Goals as goal

-- two sums that are cut off add up to what both do, cut off
cut_off : (a b x y r : ℕ) → x ≡ clamp a → y ≡ clamp b → r ≡ min (x + y) 18446744073709551615 → r ≡ clamp (a + b)
cut_off a b x y r e f g = omega (arith, e, f, g)

pub returns : goal.returns
returns c = λ stubs h is.
    let f : FontValue = c.args.parts.now in
    let iv : c.len_iv.result ≡ f.shell.len_iv = c.len_iv.ensures ∙ ap (λ (g : FontValue). g.shell.len_iv) c.parts.view_is in
    let count : c.saturating_sub-added.result ≡ fin.len c.args.subrs.now - fin.len f.subrs =
    c.saturating_sub-added.ensures ∙ (λ i. c.len.ensures i - (c.len-2.ensures ∙ ap (λ (g : FontValue). fin.len g.subrs) c.parts.view_is) i) in
    cut_off (weight f) ((fin.len c.args.subrs.now - fin.len f.subrs) * (129 + f.shell.len_iv)) c.weight.result c.stubs_weight.result c.saturating_add.result
    c.weight.ensures (c.stubs_weight.ensures ∙ (λ i. clamp (count i * (129 + iv i)))) c.saturating_add.ensures
    ∙ ap clamp (sym (filled_weighs f stubs h c.args.subrs.now is))
