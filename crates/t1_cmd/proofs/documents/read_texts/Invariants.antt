use Rattle.std.proofs.Common.{map}
use Rattle.t1_cmd.{specs.Documents.{taken_input}, proofs.ReaderLoops.{SoFar}}
use Rattle.t1_cmd.proofs.documents.read_texts.Given as goal

abbrev pub invariant-readers : goal.invariant-readers
invariant-readers g l = SoFar (taken_input l.taken) g.R.Read.remaining l.i l.fn.readers l.readers (map (λ v. v.items) l.texts.items)
