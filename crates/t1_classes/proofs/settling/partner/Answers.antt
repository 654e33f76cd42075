use Rattle.std.proofs.Common.{◌++◌, sym, ap, ◌∙◌}
use Rattle.t1_classes.specs.{Joining.{joins}, Views.{lent}}
use Rattle.t1_classes.proofs.Pairs.{no_partner, partner_here, partner_later}
use Rattle.t1_classes.proofs.settling.partner.Goals as goal

pub returns-then-branch-clause-place : goal.returns-then-branch-clause-place
returns-then-branch-clause-place c =
    partner_here (joins c.args.name.now) c.args.groups.now c.groups.place c.index-groups-place.result c.groups-test.true c.index-groups-place.is
    (lent c.args.group.now)
    (ap (joins c.args.name.now) (ap (λ xs. lent c.args.group.now ++ lent xs) (sym c.as_slice.ensures.value) ∙ sym c.in_ok-all.ensures)
    ∙ (ap (λ xs. joins c.args.name.now (lent xs)) (sym c.as_slice-in-groups.ensures.value) ∙ (sym c.in_ok-joins.ensures ∙ c.if-branch.true)))
    ∙ c.groups.invariant

pub groups-preserved : goal.groups-preserved
groups-preserved c =
    partner_later (joins c.args.name.now) c.args.groups.now c.groups.place c.index-groups-place.result c.groups-test.true c.index-groups-place.is
    (lent c.args.group.now)
    (ap (joins c.args.name.now) (ap (λ xs. lent c.args.group.now ++ lent xs) (sym c.as_slice.ensures.value) ∙ sym c.in_ok-all.ensures)
    ∙ (ap (λ xs. joins c.args.name.now (lent xs)) (sym c.as_slice-in-groups.ensures.value) ∙ (sym c.in_ok-joins.ensures ∙ c.if-branch.false)))
    ∙ c.groups.invariant

pub returns-clause-place : goal.returns-clause-place
returns-clause-place c =
    no_partner (joins c.args.name.now) c.args.groups.now c.groups.place (lent c.args.group.now) c.groups-test.false ∙ c.groups.invariant
