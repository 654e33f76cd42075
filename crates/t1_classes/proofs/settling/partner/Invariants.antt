use Rattle.std.proofs.Common.{◌≡◌, drop}
use Rattle.t1_classes.specs.{Joining.{joins}, Partition.{partner_from}, Views.{lent, group_lists}}
use Rattle.t1_classes.proofs.settling.partner.Given as goal

abbrev pub invariant-groups : goal.invariant-groups
invariant-groups l = partner_from (joins l.name) (lent l.group) l.place (group_lists (drop l.place l.groups))
    ≡ partner_from (joins l.name) (lent l.group) l.from (group_lists (drop l.from l.groups))
