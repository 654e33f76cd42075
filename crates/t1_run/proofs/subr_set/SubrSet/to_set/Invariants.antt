use Rattle.std.proofs.Common.{◌≡◌, drop}
use Rattle.t1_run.specs.Run.{with_indices}
use Rattle.t1_run.proofs.subr_set.SubrSet.to_set.Given as goal

abbrev pub invariant-indices : goal.invariant-indices
invariant-indices l = with_indices l.set.keys (drop l.index-index l.index-items) ≡ l.self
