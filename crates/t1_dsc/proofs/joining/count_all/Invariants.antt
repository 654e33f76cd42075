use Rattle.t1_dsc.proofs.CountLoop.{Counted}
use Rattle.t1_dsc.proofs.joining.count_all.Given as goal

abbrev pub invariant-documents : goal.invariant-documents
invariant-documents l = Counted (λ d. d.now) l.documents l.document-index l.total l.told.items
