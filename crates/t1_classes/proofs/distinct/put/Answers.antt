use Rattle.std.proofs.Common.{arith, sym, ap, ◌∙◌}
use Rattle.t1_classes.specs.Views.{lent}
use Rattle.t1_classes.specs.Partition.{put}
use Rattle.t1_classes.proofs.Putting.{put_there}
use Rattle.t1_classes.proofs.distinct.put.Goals as goal

pub returns-in-Equal : goal.returns-in-Equal
returns-in-Equal c =
    put_there c.args.file.now c.files.sorted.items c.files.place c.index.result.now (omega (arith, c.files-test.true, c.files.auto))
    c.index.ensures (sym c.cmp.ensures ∙ c.in-Equal.is) c.files.invariant.1
    ∙ ap (λ xs. put c.args.file.now (lent xs)) c.files.invariant.0
