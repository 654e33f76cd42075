use Rattle.std.proofs.{Common.{◌+◌, ℕ, List, map, drop, get_or, Bor, sym, ap, ◌∙◌}, lemmas.List.{drop_more}}
use Rattle.t1_document.specs.{declared.documents.Place.{Place as CodePlace}, Documents.{Place, Document, document_of}, Views.{place_view}, Joins.{places_of_all}}
use Rattle.t1_cmd.{specs.Extracts.{first_named}, proofs.ExtractLemmas.{first_before, first_behind}}
use Rattle.t1_cmd.proofs.extracts.place_of.Goals as goal

-- the places of documents that are lent
abbrev all_of : List (Bor (List ℕ)) → List Place
all_of ds = places_of_all (map (λ d. d.now) ds)

pub returns-in-Some : goal.returns-in-Some
returns-in-Some c =
    let name = c.args.name.now in
    let docs : List (Bor (List ℕ)) = c.args.documents.now in
    let i = c.documents.document-index in
    let rest = all_of (drop (i + 1) docs) in
    let found = ap (λ (d : Document). first_named name d.places) (sym c.in-Ok.ensures.exact)
    ∙ (ap (λ (ps : List CodePlace). first_named name (map place_view ps)) (sym c.as_slice.ensures.value) ∙ sym c.in-Some.ensures) in
    sym (first_before name (document_of (get_or docs i _).now).places rest (place_view c.in-Some.place) found)
    ∙ (ap (λ (ds : List (Bor (List ℕ))). first_named name (all_of ds)) (sym (drop_more docs i _ c.documents-test.true)) ∙ c.documents.invariant)

pub documents-preserved : goal.documents-preserved
documents-preserved c =
    let name = c.args.name.now in
    let docs : List (Bor (List ℕ)) = c.args.documents.now in
    let i = c.documents.document-index in
    let rest = all_of (drop (i + 1) docs) in
    let lacks = ap (λ (d : Document). first_named name d.places) (sym c.in-Ok.ensures.exact)
    ∙ (ap (λ (ps : List CodePlace). first_named name (map place_view ps)) (sym c.as_slice.ensures.value) ∙ sym c.in-None.ensures) in
    sym (first_behind name (document_of (get_or docs i _).now).places rest lacks)
    ∙ (ap (λ (ds : List (Bor (List ℕ))). first_named name (all_of ds)) (sym (drop_more docs i _ c.documents-test.true)) ∙ c.documents.invariant)
