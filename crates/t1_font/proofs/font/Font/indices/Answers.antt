use Rattle.std.{proofs.Common.{◌≡◌, ◌≤◌, ℕ, List, [], ◌∷◌, length, sym, ap, subst, ◌∙◌, arith}, specs.FinMap.{entries}}
use Rattle.t1_font.specs.{declared.font.Font.TheInside.{Inside}, FontValue.{SparseArray, total, subr_weight, weight_limit}}
use Rattle.t1_font.proofs.font.Font.indices.Goals as goal

-- Subrs weigh at least one each
one_each : (iv : ℕ) (es : List (ℕ × List ℕ)) → length es ≤ total (subr_weight iv) es
one_each iv [] = omega arith
one_each iv (e ∷ es) = let rest = one_each iv es in omega (arith, rest)

pub invariant_of-result : goal.invariant_of-result
invariant_of-result c =
    let f = c.self.inside.parts in
    let is : c.self-inside.inside.0.0.subrs ≡ f.subrs = ap (λ (s : Inside). s.parts.subrs) c.self-inside.view_is in
    let few = one_each f.shell.len_iv (entries f.subrs) in
    let light = c.self.invariant.light in
    subst (λ (n : ℕ). n ≤ weight_limit) (ap (λ (m : SparseArray). length (entries m)) (sym is) ∙ ap length (sym c.entries.ensures)) (omega (arith, few, light))
