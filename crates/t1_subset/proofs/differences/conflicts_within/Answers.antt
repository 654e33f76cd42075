use Rattle.std.proofs.Common.{rules, subst}
use Rattle.t1_algebra.specs.{Profile.{profile}, Conflicts.{conflicts}}
use Rattle.t1_subset.{specs.Refusals.{TellEach}, proofs.{Tokens.{two_enough, first_refused, second_refused}, Within.{stops_within}, state_tables.Sides.{none_or_join}}}
use Rattle.t1_subset.proofs.differences.conflicts_within.Goals as goal

pub returns-in-Ok-clause-all : goal.returns-in-Ok-clause-all
returns-in-Ok-clause-all c =
    subst (TellEach c.in-Ok.all.items) (λ j. conflicts profile (c.in_ok-own.ensures.font j) (c.in_ok-other.ensures.font j)) c.in-Ok.ensures

pub returns-in-Ok-clause-joins : goal.returns-in-Ok-clause-joins
returns-in-Ok-clause-joins c = none_or_join c.args.left.now c.args.right.now c.in-Ok.all.items (returns-in-Ok-clause-all c)

pub returns-in-Ok-clause-within : goal.returns-in-Ok-clause-within
returns-in-Ok-clause-within c =
    two_enough c.args.left.now c.args.right.now _ _ _ c.in_ok-own.ensures.takes c.in_ok-other.ensures.takes

pub returns-in_err-own-clause-within : goal.returns-in_err-own-clause-within
returns-in_err-own-clause-within c =
    let stops = stops_within _ _ c.in_err-own.field-0.0 (λ h. first_refused c.args.left.now c.args.right.now _ (c.in_err-own.ensures.refused h)) in
    search rules

pub returns-in_err-other-clause-within : goal.returns-in_err-other-clause-within
returns-in_err-other-clause-within c =
    let stops = stops_within _ _ c.in_err-other.field-0.0
    (λ h. second_refused c.args.left.now c.args.right.now _ _ c.in_ok-own.ensures.takes (c.in_err-other.ensures.refused h)) in
    search rules
