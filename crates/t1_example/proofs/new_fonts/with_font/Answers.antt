use Rattle.std.{proofs.{Common.{◌≡◌, ◌∙◌, ap, ℕ, List, Option, Some, if◌then◌else◌}, lemmas.Result.{IfOk-weaker}}, specs.Str.{bytes_eq}}
use Rattle.t1_document.specs.{Documents.{document_of}, Rewriting.{NewTexts, document_levelled}, Texts.{text_in}}
use Rattle.t1_example.specs.NewFonts.{only}
use Rattle.t1_example.proofs.new_fonts.with_font.Goals as goal

pub returns : goal.returns
returns c =
    let name = c.args.name.now in
    let font = c.args.font.now in
    let if_named = λ (other : List ℕ) (old : Option (List ℕ)). if bytes_eq name other then Some font else old in
    let texts : text_in c.put.new.self ≡ only name font =
    λ i other. (c.in_ok-put.ensures.put other ∙ ap (if_named other) (c.new-texts.ensures other)) i in
    IfOk-weaker c.level.result _ _
    (λ v e. e ∙ ap (document_levelled (text_in c.put.new.self)) c.in_ok-document.ensures.exact
    ∙ ap (λ (new : NewTexts). document_levelled new (document_of c.args.text.now)) texts)
    c.level.ensures
