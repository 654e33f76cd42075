use Rattle.std.proofs.Common.{List, ℕ, sym, ap, ◌∙◌}
use Rattle.t1_font.{specs.NormalTexts.{without_tags, same_both}, proofs.normal_fonts.NormalTexts.{tags_stay}}
use Rattle.t1_font.proofs.normal_texts.normal_clear.Goals as goal

pub returns-then-same_both : goal.returns-then-same_both
returns-then-same_both c =
    let x : List ℕ × List ℕ = (c.args.head.now, c.args.clear_tail.now) in
    let old = c.in_ok-old.ensures in
    old ∙ tags_stay x (c.in_ok-new.new.head.items, c.in_ok-new.new.clear_tail.items)
    (sym (c.if-same_both.ensures ∙ (λ i. same_both (old i) (c.as_slice-3.ensures.value i, c.as_slice-4.ensures.value i))))
    (c.in_ok-new.ensures ∙ ap without_tags ((λ i. (c.as_slice.ensures.value i, c.as_slice-2.ensures.value i)) ∙ old))
