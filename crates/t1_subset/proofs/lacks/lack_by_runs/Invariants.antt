use Rattle.std.proofs.Common.{◌≡◌, drop}
use Rattle.t1_algebra.specs.Lacks.{lack_among, first_lack}
use Rattle.t1_subset.proofs.LackTokens.{SoughtSoFar}
use Rattle.t1_subset.proofs.lacks.lack_by_runs.Given as goal

abbrev pub invariant-fonts : goal.invariant-fonts
invariant-fonts l =
    (lack_among l.fonts (drop l.font-index l.fonts) ≡ first_lack l.fonts)
    × SoughtSoFar l.fonts l.font-index l.fn.budget.left l.left.left
