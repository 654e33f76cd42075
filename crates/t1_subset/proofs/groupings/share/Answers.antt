use Rattle.std.proofs.{Common.{◌∙◌, ap, subst, option_map}, lemmas.Result.{IfErr-weaker}}
use Rattle.t1_algebra.specs.Conflicts.{ShellDiffers}
use Rattle.t1_subset.{specs.Refusals.{Tells}, proofs.Telling.{tells_no_conflict}}
use Rattle.t1_subset.proofs.state_tables.Conflicts.{parts_seen, tells_shell, tells_states}
use Rattle.t1_subset.proofs.groupings.share.Goals as goal

pub returns-clause-err : goal.returns-clause-err
returns-clause-err c =
    let f = c.args.left.now in let g = c.args.right.now in
    IfErr-weaker c.one_shell.result _ _
    (λ e h. tells_states f g e (tells_shell f g _ (parts_seen f g _ _ c.in_ok-own.ensures c.in_ok-other.ensures) e h)) c.one_shell.ensures.err

pub returns-clause-memory : goal.returns-clause-memory
returns-clause-memory c =
    let f = c.args.left.now in let g = c.args.right.now in
    let parts = parts_seen f g _ _ c.in_ok-own.ensures c.in_ok-other.ensures in
    IfErr-weaker c.one_shell.result _ _
    (λ e h none. tells_no_conflict e (subst (Tells e) (ap (option_map ShellDiffers) (parts ∙ none)) h)) c.one_shell.ensures.err
