use Rattle.std.proofs.Common.{map}
use Rattle.t1_cmd.{specs.Documents.{taken_input}, proofs.Files.{SoFar}}
use Rattle.t1_cmd.proofs.documents.all_taken.Given as goal

abbrev pub invariant-files : goal.invariant-files
invariant-files l = SoFar (taken_input l.taken) l.place l.files (map (λ d. d.now) l.all.items)
