use Rattle.std.proofs.{Common.{sym, ◌∙◌, not, subst, Some}, lemmas.Result.{on_ok_weaker}}
use Rattle.t1_algebra.specs.Conflicts.{agrees}
use Rattle.t1_subset.{specs.Refusals.{Tells}, proofs.{Telling.{adds_passing, adds_failing}, state_tables.Sides.{subr_seen, user_is}}}
use Rattle.t1_subset.proofs.differences.add_subr.Goals as goal

pub returns-then-not-clash_at : goal.returns-then-not-clash_at
returns-then-not-clash_at c =
    let own = c.args.own.now in let other = c.args.other.now in let i = c.args.index in
    let one = subr_seen own.references own.states c.requires.own c.subrs.result.now c.subrs.ensures i in
    let two = subr_seen other.references other.states c.requires.other c.subrs-2.result.now c.subrs-2.ensures i in
    adds_failing _ _ _ ((λ j. not (agrees (sym one j) (sym two j))) ∙ sym c.clash_at.ensures ∙ c.if-not-clash_at.true)

pub returns : goal.returns
returns c =
    let own = c.args.own.now in let other = c.args.other.now in let i = c.args.index in
    let one = subr_seen own.references own.states c.requires.own c.subrs.result.now c.subrs.ensures i in
    let two = subr_seen other.references other.states c.requires.other c.subrs-2.result.now c.subrs-2.ensures i in
    let clashes = (λ j. not (agrees (sym one j) (sym two j))) ∙ sym c.clash_at.ensures ∙ c.if-not-clash_at.false in
    let user = user_is own.references other.references own.states other.states c.requires.own c.requires.other i _ _ _
    c.user_in.ensures c.user_in-2.ensures c.smaller-user.ensures clashes in
    on_ok_weaker c.add.result (λ h. adds_passing c.subr_differs.result _ _ _ _ clashes
    (subst (λ x. Tells c.subr_differs.result (Some x)) user c.subr_differs.ensures) h) c.add.ensures
