use Rattle.std.proofs.Common.{Some, None}
use Rattle.t1_subset.proofs.state_tables.Conflicts.{subr_found}
use Rattle.t1_subset.proofs.searches.subr_conflict.Goals as goal

pub returns-in-Some : goal.returns-in-Some
returns-in-Some c f g h own other = subr_found f g _ _ (Some c.in-Some.index.now) c.in-Some.ensures own other

pub returns-in-None : goal.returns-in-None
returns-in-None c f g h own other = subr_found f g _ _ None c.in-None.ensures own other
