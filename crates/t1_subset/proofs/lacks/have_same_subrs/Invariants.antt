use Rattle.std.proofs.Common.{◌≡◌, drop}
use Rattle.t1_subset.specs.Lacks.{have_same_subrs}
use Rattle.t1_subset.proofs.lacks.have_same_subrs.Given as goal

abbrev pub invariant-fonts : goal.invariant-fonts
invariant-fonts l = have_same_subrs l.first (drop l.font-index l.fonts) ≡ have_same_subrs l.first l.fonts
