use Rattle.std.proofs.Common.{rules, sym, ap, option_map, ◌∙◌}
use Rattle.t1_subset.specs.Lacks.{lack_view}
use Rattle.t1_subset.proofs.{Tokens.{spends_enough}, LackTokens.{sought_starts, sought_more, sought_refused, sought_enough, sought_ends}, Rejoining.{lack_behind}, Within.{stops_within}}
use Rattle.t1_subset.proofs.lacks.lack_by_runs.Goals as goal

pub fonts-init : goal.fonts-init
fonts-init c = (search rules, sought_starts c.args.fonts.now c.args.budget.left)

pub fonts-preserved : goal.fonts-preserved
fonts-preserved c =
    let none = sym c.in_ok-lack.ensures.lack ∙ ap (option_map lack_view) c.in_default.is in (
      lack_behind c.args.fonts.now c.fonts.font-index c.font-item.result c.fonts-test.true c.font-item.is c.fonts.invariant.0 none,
      sought_more c.args.fonts.now c.fonts.font-index c.font-item.result _ _ c.fonts-test.true c.font-item.is c.fonts.invariant.1 _
          none c.in_ok-lack.ensures.takes,
    )

pub returns-in_err-lack-clause-within : goal.returns-in_err-lack-clause-within
returns-in_err-lack-clause-within c =
    let stops = stops_within _ _ c.in_err-lack.field-0.0 (λ h.
    sought_refused c.args.fonts.now c.fonts.font-index c.font-item.result _ _ c.fonts-test.true c.font-item.is c.fonts.invariant.1
    (c.in_err-lack.ensures.refused h)) in
    search rules

pub returns-in-Some-clause-within : goal.returns-in-Some-clause-within
returns-in-Some-clause-within c =
    sought_enough c.args.fonts.now c.fonts.font-index c.font-item.result _ _ c.fonts-test.true c.font-item.is c.fonts.invariant.1
    _ (sym c.in_ok-lack.ensures.lack ∙ ap (option_map lack_view) c.in-Some.is) (spends_enough _ _ _ c.in_ok-lack.ensures.takes)

pub returns-clause-within : goal.returns-clause-within
returns-clause-within c = sought_ends c.args.fonts.now c.fonts.font-index _ _ c.fonts-test.false c.fonts.invariant.1
