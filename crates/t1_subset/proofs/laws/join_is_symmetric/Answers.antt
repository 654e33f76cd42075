use Rattle.t1_algebra.proofs.Orders.{join_back}
use Rattle.t1_subset.proofs.laws.join_is_symmetric.Goals as goal

pub returns : goal.returns
returns c f g j = join_back _ f g j
