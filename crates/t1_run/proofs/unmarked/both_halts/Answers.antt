use Rattle.std.proofs.Common.{rules, sym, ap, subst, ◌∙◌, ℕ, List}
use Rattle.t1_run.specs.{declared.answer.Hints.TheVariants.{Replaced}, Run.{Outcome, with_indices, calls_of, calls, calls3}, Budgets.{Spends}}
use Rattle.t1_run.proofs.Indices.{with_again, first_of_more, first_after}
use Rattle.t1_run.proofs.Taken.{tokens_of_one, tokens_of_two, spends_then}
use Rattle.t1_run.proofs.unmarked.both_halts.Goals as goal

-- both runs are one, and its indices are all
pub returns-then-is_one-clause-executed : goal.returns-then-is_one-clause-executed
returns-then-is_one-clause-executed g c =
    let said = c.in_ok-replaced.ensures in
    let calls : List ℕ = calls_of Replaced (g.S.Subroutines.subrs c.args.subrs.now) c.args.charstring.now in
    said.called
    ∙ sym (with_again calls c.args.called.now)
    ∙ ap (λ (o : Outcome). with_indices (with_indices c.args.called.now calls) o.indices) (sym (said.one c.if-is_one.true))

-- memory is refused in the first run
pub returns-in_err-replaced-clause-some : goal.returns-in_err-replaced-clause-some
returns-in_err-replaced-clause-some g c = let some = first_of_more (calls (g.S.Subroutines.subrs c.args.subrs.now) c.args.charstring.now)
    (calls3 (g.S.Subroutines.subrs c.args.subrs.now) c.args.charstring.now) c.args.called.now _ c.in_err-replaced.ensures.some in search rules

-- memory is refused in the second run
pub returns-in_err-kept-clause-some : goal.returns-in_err-kept-clause-some
returns-in_err-kept-clause-some g c = let some =
    first_after (calls (g.S.Subroutines.subrs c.args.subrs.now) c.args.charstring.now) (calls3 (g.S.Subroutines.subrs c.args.subrs.now) c.args.charstring.now)
    c.args.called.now c.halt_of.new.called _ c.in_ok-replaced.ensures.called c.in_err-kept.ensures.some in search rules

-- one run is all
pub returns-then-is_one-clause-spends : goal.returns-then-is_one-clause-spends
returns-then-is_one-clause-spends g c =
    let said = c.in_ok-replaced.ensures in
    let all = tokens_of_one (g.S.Subroutines.subrs c.args.subrs.now) c.args.charstring.now _ said.told c.if-is_one.true in
    subst (λ n. Spends n c.args.budget.now.left c.halt_of.new.budget.left) (sym all) said.spends

-- the second run is the rest
pub returns-clause-spends : goal.returns-clause-spends
returns-clause-spends g c =
    let said = c.in_ok-replaced.ensures in
    let all = tokens_of_two (g.S.Subroutines.subrs c.args.subrs.now) c.args.charstring.now _ said.told c.if-is_one.false in
    subst (λ n. Spends n c.args.budget.now.left c.halt_of-2.new.budget.left) (sym all)
    (spends_then _ _ c.args.budget.now.left c.halt_of.new.budget.left c.halt_of-2.new.budget.left said.spends c.in_ok-kept.ensures.spends)
