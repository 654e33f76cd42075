use Rattle.std.proofs.{Common.{◌∷◌, not, map, drop, get_or, ◌+◌, ap, sym, add-one, ◌∙◌}, Math.Seq.{drop-cons}}
use Rattle.t1_algebra.specs.{Shared.{same_part}, Conflicts.{ShellDiffers}}
use Rattle.t1_subset.{specs.{Differences.{shell_part}, declared.conflict.ShellPart.TheVariants.{Head}}, proofs.Telling.{adding_next}}
use Rattle.t1_subset.proofs.differences.add_parts.Goals as goal

pub parts-preserved : goal.parts-preserved
parts-preserved c =
    let own = c.args.own.now in let other = c.args.other.now in
    let parts = c.args.parts.now in let i = c.parts.part-index in
    adding_next (λ part. not (same_part own other part)) ShellDiffers _ _ _ _ _ (map shell_part (drop (i + 1) parts)) (map shell_part (drop i parts))
    (ap (map shell_part) (drop-cons parts i Head c.parts-test.true ∙ ap (λ n. get_or parts i Head ∷ drop n parts) (sym (add-one i))))
    c.parts.invariant c.in_ok-add_part.ensures
