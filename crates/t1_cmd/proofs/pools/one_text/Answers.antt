use Rattle.std.proofs.{Common.{◌+◌, ℕ, List, length, map, drop, Bor, arith, sym, ap, ◌∙◌}, lemmas.List.{drop_more}}
use Rattle.t1_document.specs.Lines.{behind_documents}
use Rattle.t1_cmd.proofs.DocumentLemmas.{documents_longer}
use Rattle.t1_cmd.proofs.pools.one_text.Goals as goal

pub returns-then-len-gt-FILE_LIMIT-clause-refused : goal.returns-then-len-gt-FILE_LIMIT-clause-refused
returns-then-len-gt-FILE_LIMIT-clause-refused c =
    let ds : List (Bor (List ℕ)) = c.args.documents.now in
    let i = c.documents.document-index in
    let values = λ (xs : List (Bor (List ℕ))). map (λ x. x.now) xs in
    let rest : List (List ℕ) = values (drop (i + 1) ds) in
    let step = ap (λ (xs : List (Bor (List ℕ))). behind_documents c.documents.text.items (values xs)) (drop_more ds i _ c.documents-test.true)
    ∙ ap (λ (t : List ℕ). behind_documents t rest) (sym c.in_ok-push_document.ensures) in
    omega (
      arith,
      c.if-len-gt-FILE_LIMIT.true,
      c.len.ensures,
      c.push_document.new.text.ok,
      documents_longer c.push_document.new.text.items rest,
      ap length (sym step ∙ c.documents.invariant.0),
    )
