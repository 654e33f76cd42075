use Rattle.std.proofs.{Common.{◌<◌, ℕ, List, length, get_or, Bor, arith, sym, ap, ◌∙◌}, lemmas.List.{get_or-map, length-map}}
use Rattle.t1_subset.specs.NameSets.{lent}
use Rattle.t1_document.specs.{Documents.{document_of}, Groups.{outcome_in}, Views.{document_view}}
use Rattle.t1_document.proofs.LevelLemmas.{map_twice}
use Rattle.t1_cmd.proofs.FontPlaceLemmas.{same_at, same_lengths, document_on}
use Rattle.t1_cmd.proofs.font_places.push_documents.Goals as goal

pub push_places-requires : goal.push_places-requires
push_places-requires c =
    let docs = c.args.documents.now in
    let texts : List (Bor (List ℕ)) = c.args.texts.now in
    let same = c.requires ∙ map_twice document_of (λ (t : Bor (List ℕ)). t.now) texts in
    ap document_view c.index-documents-i.is
    ∙ same_at document_view (λ (t : Bor (List ℕ)). document_of t.now) docs texts same c.documents.i _ _ (omega (arith, c.documents-test.true))

pub documents-preserved : goal.documents-preserved
documents-preserved c =
    let texts : List (Bor (List ℕ)) = c.args.texts.now in
    let i = c.documents.i in
    let same = c.requires ∙ map_twice document_of (λ (t : Bor (List ℕ)). t.now) texts in
    let long = same_lengths document_view (λ (t : Bor (List ℕ)). document_of t.now) c.args.documents.now texts same in
    let lt : i < length texts = omega (arith, long, c.documents-test.true) in
    document_on (outcome_in c.args.joins.now) (lent c.args.labels.now) (lent texts) c.args.out.now.items i (get_or texts i _).now c.label_at.result.now
    c.documents.out.items c.push_places.new.out.items c.documents.invariant (omega (arith, lt, length-map texts (λ (t : Bor (List ℕ)). t.now)))
    (sym (get_or-map (λ (t : Bor (List ℕ)). t.now) texts i _ _ lt)) c.label_at.ensures c.in_ok-push_places.ensures
