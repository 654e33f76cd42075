use Rattle.std.{proofs.Common.{◌≡◌, ◌≤◌, ℕ, length, sym, ap, subst, ◌∙◌}, specs.FinMap.{entries, len-entries}}
use Rattle.t1_font.specs.{declared.font.Font.TheInside.{Inside}, FontValue.{CharStrings, count_limit}}
use Rattle.t1_font.proofs.font.Font.names.Goals as goal

pub invariant_of-result : goal.invariant_of-result
invariant_of-result c =
    let is : c.self-inside.inside.0.0.glyphs ≡ c.self.inside.parts.glyphs = ap (λ (s : Inside). s.parts.glyphs) c.self-inside.view_is in
    subst (λ (n : ℕ). n ≤ count_limit) (len-entries c.self.inside.parts.glyphs
    ∙ (ap (λ (m : CharStrings). length (entries m)) (sym is) ∙ ap length (sym c.entries.ensures))) c.self.invariant.glyphs.few
