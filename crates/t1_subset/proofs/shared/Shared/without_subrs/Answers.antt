use Rattle.std.specs.FinMap as maps
use Rattle.t1_subset.proofs.shared.Shared.without_subrs.Goals as goal

pub returns : goal.returns
returns c = λ i. ((c.shell.ensures i).0, ((c.shell.ensures i).1, maps.keys (c.none.ensures i)))
