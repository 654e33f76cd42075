use Rattle.std.proofs.Common.{◌≡◌, map, take}
use Rattle.t1_cmd.specs.Levels.{carried}
use Rattle.t1_cmd.proofs.levels.all_carried.Given as goal

abbrev pub invariant-files : goal.invariant-files
invariant-files l = map (λ d. d.now) l.documents.items ≡ map (λ f. carried f.now) (take l.file-index l.files)
