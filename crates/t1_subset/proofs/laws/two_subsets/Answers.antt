use Rattle.t1_algebra.proofs.Fonts.{two_subsets}
use Rattle.t1_subset.proofs.laws.two_subsets.Goals as goal

pub returns : goal.returns
returns c = two_subsets _
