use Rattle.t1_subset.proofs.closing.NameSets.{copy_step}
use Rattle.t1_subset.proofs.closures.upwards.Goals as goal

pub names-preserved : goal.names-preserved
names-preserved c =
    copy_step _ _ c.args.names.now c.names.name-index _ _ c.names-test.true c.in_ok-from_slice.ensures.items (c.in_ok-insert.ensures.ok) c.names.invariant
