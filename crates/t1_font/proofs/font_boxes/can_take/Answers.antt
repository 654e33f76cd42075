use Rattle.std.{proofs.Common.{◌≡◌, ℕ, Bool, true, false, List, refl, ap, ◌∙◌}, specs.Prelude.{◌&&◌, nat_le}}
use Rattle.t1_font.specs.{FontValue.{weight, weight_limit}, NormalTexts.{same_both, normal_clear}, FontBoxes.{stays_at, with_texts}, BoxViews.{side_view}}
use Rattle.t1_text.specs.BoxViews.{box_view}
use Rattle.t1_font.proofs.font_boxes.can_take.Goals as goal

on_all : (f e s l : Bool) → f ≡ true → e ≡ true → s ≡ true → l ≡ (f && (e && (s && l)))
on_all f e s l p q r = rw (p, q, r) refl

on_stays : (f e s l : Bool) → f ≡ true → e ≡ true → s ≡ false → s ≡ (f && (e && (s && l)))
on_stays f e s l p q r = rw (p, q, r) refl

on_normal : (f e s l : Bool) → f ≡ true → e ≡ false → e ≡ (f && (e && (s && l)))
on_normal f e s l p q = rw (p, q) refl

pub returns-then-stays : goal.returns-then-stays
returns-then-stays c =
    let new : List ℕ × List ℕ = (c.both_fit.new.texts.head.items, c.both_fit.new.texts.clear_tail.items) in
    let old : List ℕ × List ℕ = (c.args.texts.now.head.items, c.args.texts.now.clear_tail.items) in
    let same : new ≡ old = λ i. (c.in_ok-fit.ensures.1 i, c.in_ok-fit.ensures.2 i) in
    let E = c.in_ok-normal.ensures ∙ ap (λ (x : List ℕ × List ℕ). same_both (normal_clear x) x) same in
    let S = c.stays_at-stays.ensures ∙ ap (λ (x : List ℕ × List ℕ). stays_at (box_view c.args.sides) x (side_view c.args.side)) same in
    let L = c.is_light-light.ensures ∙ ap (λ (x : List ℕ × List ℕ). nat_le (weight (with_texts c.args.parts.now x)) weight_limit) same in (
      on_all c.in_ok-fit.fit c.in_ok-normal.normal c.stays_at-stays.result c.is_light-light.result c.if-fit.true c.if-normal.true c.if-stays.true
          ∙ (λ i. c.in_ok-fit.ensures.0 i && (E i && (S i && L i))),
      c.in_ok-fit.ensures.1,
      c.in_ok-fit.ensures.2,
    )

pub returns-else-stays : goal.returns-else-stays
returns-else-stays c =
    let new : List ℕ × List ℕ = (c.both_fit.new.texts.head.items, c.both_fit.new.texts.clear_tail.items) in
    let old : List ℕ × List ℕ = (c.args.texts.now.head.items, c.args.texts.now.clear_tail.items) in
    let same : new ≡ old = λ i. (c.in_ok-fit.ensures.1 i, c.in_ok-fit.ensures.2 i) in
    let E = c.in_ok-normal.ensures ∙ ap (λ (x : List ℕ × List ℕ). same_both (normal_clear x) x) same in
    let S = c.stays_at-stays.ensures ∙ ap (λ (x : List ℕ × List ℕ). stays_at (box_view c.args.sides) x (side_view c.args.side)) same in
    let L = c.is_light-light.ensures ∙ ap (λ (x : List ℕ × List ℕ). nat_le (weight (with_texts c.args.parts.now x)) weight_limit) same in (
      on_stays c.in_ok-fit.fit c.in_ok-normal.normal c.stays_at-stays.result c.is_light-light.result c.if-fit.true c.if-normal.true c.if-stays.false
          ∙ (λ i. c.in_ok-fit.ensures.0 i && (E i && (S i && L i))),
      c.in_ok-fit.ensures.1,
      c.in_ok-fit.ensures.2,
    )

pub returns-else-normal : goal.returns-else-normal
returns-else-normal c =
    let new : List ℕ × List ℕ = (c.both_fit.new.texts.head.items, c.both_fit.new.texts.clear_tail.items) in
    let old : List ℕ × List ℕ = (c.args.texts.now.head.items, c.args.texts.now.clear_tail.items) in
    let same : new ≡ old = λ i. (c.in_ok-fit.ensures.1 i, c.in_ok-fit.ensures.2 i) in
    let E = c.in_ok-normal.ensures ∙ ap (λ (x : List ℕ × List ℕ). same_both (normal_clear x) x) same in
    let S = c.stays_at-stays.ensures ∙ ap (λ (x : List ℕ × List ℕ). stays_at (box_view c.args.sides) x (side_view c.args.side)) same in
    let L = c.is_light-light.ensures ∙ ap (λ (x : List ℕ × List ℕ). nat_le (weight (with_texts c.args.parts.now x)) weight_limit) same in (
      on_normal c.in_ok-fit.fit c.in_ok-normal.normal c.stays_at-stays.result c.is_light-light.result c.if-fit.true c.if-normal.false
          ∙ (λ i. c.in_ok-fit.ensures.0 i && (E i && (S i && L i))),
      c.in_ok-fit.ensures.1,
      c.in_ok-fit.ensures.2,
    )
