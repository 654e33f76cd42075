use Rattle.std.proofs.Common.{◌≡◌, ◌++◌, map, drop}
use Rattle.t1_dsc.specs.Joining.{documents_bytes}
use Rattle.t1_dsc.proofs.joining.push_documents.Given as goal

abbrev pub invariant-documents : goal.invariant-documents
invariant-documents l =
    l.out.items ++ documents_bytes l.start l.first (map (λ d. d.now) (drop l.document-index l.documents))
    ≡ l.fn.out.items ++ documents_bytes l.start 1 (map (λ d. d.now) l.documents)
