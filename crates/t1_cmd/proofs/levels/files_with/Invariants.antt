use Rattle.std.proofs.Common.{◌≡◌, ◌++◌, map, drop}
use Rattle.t1_subset.specs.NameSets.{lent}
use Rattle.t1_cmd.specs.Levels.{files_with}
use Rattle.t1_cmd.proofs.levels.files_with.Given as goal

abbrev pub invariant-files : goal.invariant-files
invariant-files l =
    map (λ t. t.items) l.all.items ++ files_with (lent (drop l.i l.files)) (map (λ d. d.items) (drop l.i l.documents))
    ≡ files_with (lent l.files) (map (λ d. d.items) l.documents)
