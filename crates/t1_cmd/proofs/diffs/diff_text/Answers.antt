use Rattle.std.{proofs.Common.{◌≡◌, ◌↔◌, ◌∙◌, ap, subst, []}, specs.List.{flat_map}}
use Rattle.t1_font.specs.FontValue.{FontValue}
use Rattle.t1_algebra.specs.{Profile.{profile}, States.{Join}, Conflicts.{conflicts}}
use Rattle.t1_subset.specs.{Refusals.{TellEach}}
use Rattle.t1_cmd.{specs.Diffs.{conflict_line}, proofs.DiffLemmas.{no_text}}
use Rattle.t1_cmd.proofs.diffs.diff_text.Goals as goal

pub returns-in-Ok-conflict_lines-clause-text : goal.returns-in-Ok-conflict_lines-clause-text
returns-in-Ok-conflict_lines-clause-text c =
    let es = c.in-Ok.all.items in
    let told = subst (TellEach es) (λ i. conflicts profile (c.in_ok-own.ensures i) (c.in_ok-other.ensures i)) c.in-Ok.ensures.all in
    (es, told, c.in-Ok-conflict_lines.ensures ∙ ap (flat_map conflict_line) c.as_slice.ensures.value)

pub returns-in-Ok-conflict_lines-clause-joins : goal.returns-in-Ok-conflict_lines-clause-joins
returns-in-Ok-conflict_lines-clause-joins c =
    let es = c.in-Ok.all.items in let f = c.args.left.now in let g = c.args.right.now in
    let joins = subst (λ (f : FontValue). (es ≡ []) ↔ Join profile f g) c.in_ok-own.ensures
    (subst (λ (g : FontValue). (es ≡ []) ↔ Join profile c.in_ok-own.own g) c.in_ok-other.ensures c.in-Ok.ensures.joins) in
    no_text f g es c.in-Ok-conflict_lines.text.items (c.in-Ok-conflict_lines.ensures ∙ ap (flat_map conflict_line) c.as_slice.ensures.value) joins
