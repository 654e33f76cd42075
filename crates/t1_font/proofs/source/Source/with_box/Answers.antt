use Rattle.std.proofs.{Common.{◌≡◌, ℕ, List, sym, ap, subst, ◌∙◌, refl}, lemmas.Bool.{cond-true, cond-false}}
use Rattle.t1_bytes.specs.Laws.{AreBytes}
use Rattle.t1_font.specs.{declared.normal_texts.ClearTexts.{ClearTexts}, FontValue.{FontValue}, IsFont.{IsFont}, FontBoxes.{side_in, clear_of, clear_with, with_texts, font_with, can_have}}
use Rattle.t1_text.specs.BoxViews.{box_view}
use Rattle.t1_font.proofs.{normal_fonts.BoxFonts.{had_is_font}, normal_fonts.BoxLists.{some_is, none_is}}
use Rattle.t1_font.proofs.source.Source.with_box.Goals as goal

-- the two texts that were made
abbrev both : ClearTexts → List ℕ × List ℕ
both x = (x.head.items, x.clear_tail.items)

pub with_texts-requires : goal.with_texts-requires
with_texts-requires c =
    let u = box_view c.args.sides in
    let f : FontValue = c.self.inside.parts in
    let is : f ≡ c.args.self = c.self.view_is in
    let x : List ℕ × List ℕ = both c.in-Some.texts in
    let k = some_is both (can_have u f) c.in-Ok.texts c.in-Some.texts (clear_with u f.shell) c.in-Ok.ensures c.in-Some.is in
    let made : x ≡ clear_with u f.shell = k.1 in
    let head : AreBytes x.0 = subst AreBytes c.as_slice.ensures.value c.proof_are_bytes.ensures in
    let tail : AreBytes x.1 = subst AreBytes c.as_slice-in-Some.ensures.value c.proof_are_bytes-in-Some.ensures in
    let font = had_is_font u f (side_in (clear_of f.shell)) refl k.0 (subst (λ (v : List ℕ × List ℕ). AreBytes v.0) made head)
    (subst (λ (v : List ℕ × List ℕ). AreBytes v.1) made tail) c.self.invariant in
    subst IsFont (λ i. with_texts (is i) (sym made i)) font

pub returns-in-Some : goal.returns-in-Some
returns-in-Some c =
    let u = box_view c.args.sides in
    let f : FontValue = c.self.inside.parts in
    let is : f ≡ c.args.self = c.self.view_is in
    let k = some_is both (can_have u f) c.in-Ok.texts c.in-Some.texts (clear_with u f.shell) c.in-Ok.ensures c.in-Some.is in
    let t = ap (can_have u) (sym is) ∙ k.0 in
    c.with_texts.ensures
    ∙ (ap (with_texts c.args.self) (k.1 ∙ ap (λ (v : FontValue). clear_with u v.shell) is)
    ∙ sym (cond-true (can_have u c.args.self) (font_with u c.args.self) c.args.self t))

pub returns-in-None : goal.returns-in-None
returns-in-None c =
    let u = box_view c.args.sides in
    let f : FontValue = c.self.inside.parts in
    let t = none_is both (can_have u f) c.in-Ok.texts (clear_with u f.shell) c.in-Ok.ensures c.in-None.is in
    sym (cond-false (can_have u c.args.self) (font_with u c.args.self) c.args.self (ap (can_have u) (sym c.self.view_is) ∙ t))
