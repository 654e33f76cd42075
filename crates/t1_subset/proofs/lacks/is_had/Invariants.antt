use Rattle.std.proofs.Common.{◌≡◌, drop}
use Rattle.t1_algebra.specs.Lacks.{is_had}
use Rattle.t1_subset.proofs.lacks.is_had.Given as goal

abbrev pub invariant-fonts : goal.invariant-fonts
invariant-fonts l = is_had (drop l.font-index l.fonts) l.index ≡ is_had l.fonts l.index
