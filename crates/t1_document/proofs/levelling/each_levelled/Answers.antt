use Rattle.std.proofs.{Common.{◌≡◌, map, false, sym, ap, subst, ◌∙◌, is_some}, lemmas.List.{take_all}}
use Rattle.t1_document.specs.{declared.documents.Document.{Document as CodeDocument}, Rewriting.{is_refused, document_levelled}, Laws.{NoneIsRefused}}
use Rattle.t1_document.specs.{Texts.{text_in}, Views.{document_view}}
use Rattle.t1_document.proofs.LevelLemmas.{document_has, map_twice}
use Rattle.t1_document.proofs.levelling.each_levelled.Goals as goal

pub write-requires : goal.write-requires
write-requires c name =
    ap is_some (c.new-none.ensures name)
    ∙ sym (subst (λ (d : CodeDocument). is_refused (text_in c.args.new.now) (document_view d).places name ≡ false) (sym c.document-item.is)
    (document_has (NoneIsRefused (text_in c.args.new.now)) c.args.documents.now c.documents.document-index _ c.documents-test.true c.requires name))

pub returns : goal.returns
returns c =
    let new = text_in c.args.new.now in
    c.documents.invariant
    ∙ (ap (map (λ (d : CodeDocument). document_levelled new (document_view d)))
    (take_all c.documents.document-index c.args.documents.now c.documents-test.false)
    ∙ sym (map_twice (document_levelled new) document_view c.args.documents.now))
