use Rattle.t1_algebra.proofs.Shares.{parts_test}
use Rattle.t1_subset.specs.Differences.{shell_part}
use Rattle.t1_subset.proofs.shared.Shared.is_same.Goals as goal

pub returns : goal.returns
returns c = parts_test shell_part c.args.self.now c.args.other.now c.differing_part.result c.is_none.result c.is_none.ensures c.differing_part.ensures
