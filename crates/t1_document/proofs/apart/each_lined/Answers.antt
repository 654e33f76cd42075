use Rattle.std.proofs.{Common.{map, sym, ap, ◌∙◌}, lemmas.List.{take_all}}
use Rattle.t1_document.specs.{declared.documents.Document.{Document as CodeDocument}, Apart.{lined_document}, Texts.{text_in}, Views.{document_view}}
use Rattle.t1_document.proofs.LevelLemmas.{map_twice}
use Rattle.t1_document.proofs.apart.each_lined.Goals as goal

pub returns : goal.returns
returns c =
    let lined = lined_document c.args.start.now c.args.by (text_in c.args.ends.now) in
    c.documents.invariant
    ∙ (ap (map (λ (d : CodeDocument). lined (document_view d))) (take_all c.documents.document-index c.args.documents.now c.documents-test.false)
    ∙ sym (map_twice lined document_view c.args.documents.now))
