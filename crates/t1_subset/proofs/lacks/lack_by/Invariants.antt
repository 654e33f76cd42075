use Rattle.std.proofs.Common.{◌≡◌, None}
use Rattle.t1_algebra.specs.Lacks.{lack_at, first_below}
use Rattle.t1_subset.proofs.lacks.lack_by.Given as goal

abbrev pub invariant-indices : goal.invariant-indices
invariant-indices l = first_below (lack_at l.fonts l.font) l.index ≡ None
