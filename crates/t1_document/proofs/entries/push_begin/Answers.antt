use Rattle.std.{proofs.Common.{◌≡◌, ◌++◌, ◌∷◌, [], ℕ, List, ap, ◌∙◌, append_assoc}, specs.Prelude.{codes}}
use Rattle.t1_document.proofs.entries.push_begin.Goals as goal

regroup : (a b c d : List ℕ) → ((a ++ b) ++ c) ++ d ≡ a ++ (b ++ (c ++ d))
regroup a b c d = simp append_assoc

pub returns : goal.returns
returns c =
    let end : List ℕ = 10 ∷ [] in
    c.in_ok-push.ensures.items
    ∙ (ap (λ (t : List ℕ). t ++ end)
    (c.in_ok-extend_from_slice-2.ensures.items ∙ ap (λ (t : List ℕ). t ++ c.args.name.now) c.in_ok-extend_from_slice.ensures.items)
    ∙ regroup c.args.out.now.items (codes "%%BeginResource: font ") c.args.name.now end)
