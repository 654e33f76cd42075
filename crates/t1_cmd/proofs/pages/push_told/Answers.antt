use Rattle.std.{proofs.Common.{◌≡◌, ◌++◌, ℕ, List, ap, ◌∙◌, append_assoc}, specs.Prelude.{codes, decimal}}
use Rattle.t1_cmd.proofs.pages.push_told.Goals as goal

regroup : (a b c d : List ℕ) → (a ++ (b ++ c)) ++ d ≡ a ++ (b ++ (c ++ d))
regroup a b c d = simp append_assoc

pub returns : goal.returns
returns c =
    let end : List ℕ = codes " has no pages by its comments: it is one page\n" in
    c.in_ok-extend_from_slice.ensures.items
    ∙ (ap (λ (t : List ℕ). t ++ end) c.in_ok-push_about.ensures ∙ regroup c.args.out.now.items (codes "document ") (decimal c.args.number) end)
