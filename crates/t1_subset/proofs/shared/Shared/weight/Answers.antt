use Rattle.std.proofs.{Common.{◌≡◌, ◌+◌, ◌*◌, ℕ, length, min, arith, sym, ◌∙◌, ap}, lemmas.List.{length-map}}
use Rattle.t1_font.specs.{FontModel.{clamp}, FontValue.{Shell, texts_weight}}
use Rattle.t1_algebra.specs.StateTables.{shared_weight}
use Rattle.std.specs.FinMap as maps
use Rattle.t1_subset.proofs.shared.Shared.weight.Goals as goal

-- a sum of two numbers that were cut off is cut off, too
both_cut : (x t k s sum : ℕ) → t ≡ clamp x → s ≡ min k 18446744073709551615 → sum ≡ min (t + s) 18446744073709551615 → sum ≡ clamp (x + k)
both_cut x t k s sum e f g = omega (arith, e, f, g)

pub returns : goal.returns
returns c =
    let subrs = c.self.inside.subrs in
    let count : c.len.result ≡ length (maps.keys subrs) = c.len.ensures ∙ maps.len-entries subrs ∙ sym (length-map (maps.entries subrs) (λ e. e.0)) in
    let iv : c.len_iv.result ≡ c.self.inside.shell.0.len_iv = c.len_iv.ensures ∙ sym (ap (λ s. s.0.len_iv) c.self.view_is) in
    both_cut _ _ (length (maps.keys subrs) * (129 + c.self.inside.shell.0.len_iv)) _ _
    (c.texts_weight.ensures ∙ ap (λ (s : Shell). clamp (texts_weight s)) c.texts.ensures)
    (c.saturating_mul-stubs.ensures ∙ (λ i. min (count i * (129 + iv i)) 18446744073709551615)) c.saturating_add.ensures
    ∙ ap (λ s. clamp (shared_weight s)) c.self.view_is
