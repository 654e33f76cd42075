use Rattle.std.proofs.Common.{◌+◌, drop, ap, ◌∙◌}
use Rattle.t1_classes.specs.{Joining.{joins}, Partition.{partner_from}, Views.{lent, group_lists}}
use Rattle.t1_classes.proofs.Pairs.{no_pair, pair_here, pair_later}
use Rattle.t1_classes.proofs.settling.pair.Goals as goal

pub returns-in-Some-clause-places : goal.returns-in-Some-clause-places
returns-in-Some-clause-places c =
    pair_here (joins c.args.name.now) c.args.groups.now c.groups.place c.index-groups-place.result c.groups-test.true c.index-groups-place.is
    c.in_ok-other.field-0 c.in-Some.other
    (c.in_ok-other.ensures.place
    ∙ ap (λ xs. partner_from (joins c.args.name.now) (lent xs) (c.groups.place + 1) (group_lists (drop (c.groups.place + 1) c.args.groups.now)))
    c.as_slice.ensures.value)
    c.in-Some.is
    ∙ c.groups.invariant

pub groups-preserved : goal.groups-preserved
groups-preserved c =
    pair_later (joins c.args.name.now) c.args.groups.now c.groups.place c.index-groups-place.result c.groups-test.true c.index-groups-place.is
    c.in_ok-other.field-0
    (c.in_ok-other.ensures.place
    ∙ ap (λ xs. partner_from (joins c.args.name.now) (lent xs) (c.groups.place + 1) (group_lists (drop (c.groups.place + 1) c.args.groups.now)))
    c.as_slice.ensures.value)
    c.in_default.is
    ∙ c.groups.invariant

pub returns-clause-places : goal.returns-clause-places
returns-clause-places c = no_pair (joins c.args.name.now) c.args.groups.now c.groups.place c.groups-test.false ∙ c.groups.invariant
