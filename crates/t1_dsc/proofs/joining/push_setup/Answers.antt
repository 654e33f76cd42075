use Rattle.std.{proofs.Common.{◌++◌, ℕ, List, ap, ◌∙◌, append_assoc}, specs.Prelude.{codes}}
use Rattle.t1_dsc.specs.Joining.{quieted, setup}
use Rattle.t1_dsc.proofs.joining.push_setup.Goals as goal

pub returns : goal.returns
unfolding setup
returns c =
    let out = c.args.out.now.items in
    let fonts = c.args.fonts.now in
    c.in_ok-extend_from_slice-2.ensures.items
    ∙ (ap (λ (t : List ℕ). t ++ codes "%%EndSetup\n")
    (c.in_ok-push_quieted.ensures ∙ ap (λ (t : List ℕ). t ++ quieted fonts) c.in_ok-extend_from_slice.ensures.items)
    ∙ (append_assoc (out ++ codes "%%BeginSetup\n") (quieted fonts) (codes "%%EndSetup\n")
    ∙ append_assoc out (codes "%%BeginSetup\n") (quieted fonts ++ codes "%%EndSetup\n")))
