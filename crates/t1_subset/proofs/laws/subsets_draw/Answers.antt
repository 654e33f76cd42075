use Rattle.t1_algebra.proofs.Drawings.{subset_alike}
use Rattle.t1_subset.proofs.laws.subsets_draw.Goals as goal

pub returns : goal.returns
returns c = subset_alike
