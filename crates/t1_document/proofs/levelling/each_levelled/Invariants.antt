use Rattle.std.proofs.Common.{◌≡◌, map, take}
use Rattle.t1_document.specs.{Rewriting.{document_levelled}, Texts.{text_in}, Views.{document_view}}
use Rattle.t1_document.proofs.levelling.each_levelled.Given as goal

abbrev pub invariant-documents : goal.invariant-documents
invariant-documents l =
    map (λ t. t.items) l.texts.items ≡ map (λ d. document_levelled (text_in l.new) (document_view d)) (take l.document-index l.documents)
