use Rattle.std.proofs.Common.{◌≡◌, map, take}
use Rattle.t1_document.specs.{Apart.{lined_document}, Texts.{text_in}, Views.{document_view}}
use Rattle.t1_document.proofs.apart.each_lined.Given as goal

abbrev pub invariant-documents : goal.invariant-documents
invariant-documents l =
    map (λ t. t.items) l.texts.items ≡ map (λ d. lined_document l.start l.by (text_in l.ends) (document_view d)) (take l.document-index l.documents)
