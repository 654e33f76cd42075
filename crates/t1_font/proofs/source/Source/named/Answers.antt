use Rattle.std.{proofs.{Common.{◌≡◌, ℕ, List, sym, ap, subst, ◌∙◌}, lemmas.Bool.{cond-true, cond-false, and_parts}}, specs.Prelude.{nat_le}}
use Rattle.t1_bytes.specs.Laws.{AreBytes}
use Rattle.t1_font.specs.{declared.normal_texts.ClearTexts.{ClearTexts}, FontValue.{FontValue, weight, weight_limit}, IsFont.{IsFont}, NormalTexts.{both_fit}, FontBoxes.{with_texts}}
use Rattle.t1_font.specs.FontNames.{clear_named, font_named, can_be_named}
use Rattle.t1_font.proofs.{normal_fonts.BoxFonts.{fitting_is_font}, normal_fonts.BoxLists.{some_is, none_is}}
use Rattle.t1_font.proofs.source.Source.named.Goals as goal

-- the two texts that were made
abbrev both : ClearTexts → List ℕ × List ℕ
both x = (x.head.items, x.clear_tail.items)

pub with_texts-requires : goal.with_texts-requires
with_texts-requires c =
    let name = c.args.name.now in
    let f : FontValue = c.self.inside.parts in
    let is : f ≡ c.args.self = c.self.view_is in
    let x : List ℕ × List ℕ = both c.in-Some.texts in
    let y : List ℕ × List ℕ = clear_named name f.shell in
    let k = some_is both (can_be_named name f) c.in-Ok.texts c.in-Some.texts y c.in-Ok.ensures c.in-Some.is in
    let made : x ≡ y = k.1 in
    let tests = and_parts (both_fit y) (nat_le (weight (font_named name f)) weight_limit) k.0 in
    let head : AreBytes x.0 = subst AreBytes c.as_slice.ensures.value c.proof_are_bytes.ensures in
    let tail : AreBytes x.1 = subst AreBytes c.as_slice-in-Some.ensures.value c.proof_are_bytes-in-Some.ensures in
    let font = fitting_is_font f y tests.0 tests.1 (subst (λ (v : List ℕ × List ℕ). AreBytes v.0) made head)
    (subst (λ (v : List ℕ × List ℕ). AreBytes v.1) made tail) c.self.invariant in
    subst IsFont (λ i. with_texts (is i) (sym made i)) font

pub returns-in-Some : goal.returns-in-Some
returns-in-Some c =
    let name = c.args.name.now in
    let f : FontValue = c.self.inside.parts in
    let is : f ≡ c.args.self = c.self.view_is in
    let k = some_is both (can_be_named name f) c.in-Ok.texts c.in-Some.texts (clear_named name f.shell) c.in-Ok.ensures c.in-Some.is in
    let t = ap (can_be_named name) (sym is) ∙ k.0 in
    c.with_texts.ensures
    ∙ (ap (with_texts c.args.self) (k.1 ∙ ap (λ (v : FontValue). clear_named name v.shell) is)
    ∙ sym (cond-true (can_be_named name c.args.self) (font_named name c.args.self) c.args.self t))

pub returns-in-None : goal.returns-in-None
returns-in-None c =
    let name = c.args.name.now in
    let f : FontValue = c.self.inside.parts in
    let t = none_is both (can_be_named name f) c.in-Ok.texts (clear_named name f.shell) c.in-Ok.ensures c.in-None.is in
    sym (cond-false (can_be_named name c.args.self) (font_named name c.args.self) c.args.self (ap (can_be_named name) (sym c.self.view_is) ∙ t))
