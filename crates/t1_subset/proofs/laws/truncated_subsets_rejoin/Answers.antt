use Rattle.t1_algebra.proofs.rejoining.Boxed.{truncated_subsets_rejoin}
use Rattle.t1_subset.proofs.laws.truncated_subsets_rejoin.Goals as goal

pub returns : goal.returns
returns c = truncated_subsets_rejoin
