use Rattle.std.{proofs.Common.{◌≡◌, ◌++◌, ℕ, List, ap, ◌∙◌, append_assoc}, specs.Prelude.{codes}}
use Rattle.t1_document.specs.Pooling.{behind_text}
use Rattle.t1_document.proofs.entries.push_text_part.Goals as goal

regroup : (a b c d e : List ℕ) → (((a ++ b) ++ c) ++ d) ++ e ≡ a ++ (b ++ (c ++ (d ++ e)))
regroup a b c d e = simp append_assoc

-- four texts, one after the other
four : (a b c d e n o p q r : List ℕ) → n ≡ a ++ b → o ≡ n ++ c → r ≡ d → p ≡ o ++ r → q ≡ p ++ e → q ≡ a ++ (b ++ (c ++ (d ++ e)))
four a b c d e n o p q r f g h i k =
    k
    ∙ (ap (λ (t : List ℕ). t ++ e)
    (i ∙ (ap (λ (t : List ℕ). t ++ r) (g ∙ ap (λ (t : List ℕ). t ++ c) f) ∙ ap (λ (t : List ℕ). ((a ++ b) ++ c) ++ t) h)) ∙ regroup a b c d e)

pub returns : goal.returns
returns c =
    let e = c.args.entry.now in
    four c.args.out.now.items (codes "%%BeginResource: font " ++ (e.name.items ++ codes "\n")) e.text.now (behind_text e.answers)
    (codes "%%EndResource\n") _ _ _ _ c.behind_text.result.now
    (c.in_ok-push_begin.ensures
    ∙ ap (λ (n : List ℕ). c.args.out.now.items ++ (codes "%%BeginResource: font " ++ (n ++ codes "\n"))) c.as_slice.ensures.value)
    c.in_ok-extend_from_slice.ensures.items c.behind_text.ensures
    c.in_ok-extend_from_slice-2.ensures.items c.in_ok-extend_from_slice-3.ensures.items
