use Rattle.std.proofs.Common.{◌≡◌, map, take}
use Rattle.t1_document.specs.{Documents.{document_of}, Views.{document_view}}
use Rattle.t1_document.proofs.levelling.read_documents.Given as goal

abbrev pub invariant-texts : goal.invariant-texts
invariant-texts l = map document_view l.documents.items ≡ map (λ t. document_of t.now) (take l.text-index l.texts)
