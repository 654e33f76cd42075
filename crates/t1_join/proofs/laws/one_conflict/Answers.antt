use Rattle.t1_join.proofs.ConflictLemmas.{conflict_one, conflict_back}
use Rattle.t1_join.proofs.laws.one_conflict.Goals as goal

pub returns : goal.returns
returns c = record { one = conflict_one; either_order = conflict_back }
