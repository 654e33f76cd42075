use Rattle.std.proofs.{Common.{ℕ, List, map, Bor, sym, ap, ◌∙◌}, lemmas.List.{take_all}}
use Rattle.t1_document.{specs.Documents.{document_of}, proofs.LevelLemmas.{map_twice}}
use Rattle.t1_document.proofs.levelling.read_documents.Goals as goal

pub returns : goal.returns
returns c =
    c.texts.invariant
    ∙ (ap (map (λ (t : Bor (List ℕ)). document_of t.now)) (take_all c.texts.text-index c.args.texts.now c.texts-test.false)
    ∙ sym (map_twice document_of (λ (t : Bor (List ℕ)). t.now) c.args.texts.now))
