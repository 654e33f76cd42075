use Rattle.std.proofs.Common.{◌++◌, set, ap, ◌∙◌}
use Rattle.t1_classes.specs.Views.{lent, group_lists}
use Rattle.t1_classes.proofs.Pairs.{joined_lists}
use Rattle.t1_classes.proofs.settling.join_at.Goals as goal

pub returns : goal.returns
returns c =
    ap (λ gs. group_lists (set gs c.args.place c.in_ok-all.all)) c.remove.ensures.items
    ∙ joined_lists c.args.groups.now.items c.args.place c.args.other c.in_ok-all.all c.index.result.now c.index-2.result.now c.requires.order c.requires.within
    c.index.ensures c.index-2.ensures (c.in_ok-all.ensures ∙ (λ i. lent (c.as_slice.ensures.value i) ++ lent (c.as_slice-2.ensures.value i)))
