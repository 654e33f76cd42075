use Rattle.std.specs.FinMap as maps
use Rattle.t1_algebra.specs.{Profile.{profile}, Conflicts.{subr_differs, subr_clashes}}
use Rattle.t1_subset.proofs.Telling.{Adding, each_told}
use Rattle.t1_subset.proofs.differences.add_subrs.Given as goal

abbrev pub invariant-indices : goal.invariant-indices
invariant-indices l = Adding l.initial.all.items l.all.items
    (each_told (subr_clashes profile l.own.references.font.now l.other.references.font.now)
    (subr_differs profile l.own.references.font.now l.other.references.font.now)
    (maps.keys l.own.references.font.now.subrs))
    (each_told (subr_clashes profile l.own.references.font.now l.other.references.font.now)
    (subr_differs profile l.own.references.font.now l.other.references.font.now)
    l.index-iterator)
