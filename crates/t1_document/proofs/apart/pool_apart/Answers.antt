use Rattle.std.{proofs.Common.{◌≡◌, ℕ, List, map, ap, subst, ◌∙◌}, specs.List.{flat_map}}
use Rattle.t1_subset.specs.NameSets.{lent}
use Rattle.t1_document.specs.{declared.documents.Document.{Document as CodeDocument}, declared.documents.Place.{Place as CodePlace}}
use Rattle.t1_document.specs.{Documents.{Place, Document, document_of}, Joins.{AreOutcomes, new_texts, places_of_all}, Groups.{outcome_in}}
use Rattle.t1_document.specs.{Rewriting.{NewTexts}, Texts.{text_in}, Views.{place_view, document_view}, Pooling.{own_start, longest, keyed}}
use Rattle.t1_document.specs.Apart.{start_of, fonts_among, left_among, ends_among, lined_document}
use Rattle.t1_document.proofs.LevelLemmas.{map_twice, places_all}
use Rattle.t1_document.proofs.apart.pool_apart.Goals as goal

-- documents as values
abbrev seen : List CodeDocument → List Document
seen ds = map document_view ds

-- the places of documents that were read are those of the texts
own_here : (texts : List (List ℕ)) (docs lent_docs : List CodeDocument) (places : List CodePlace) → seen docs ≡ map document_of texts → lent_docs ≡ docs →
    map place_view places ≡ flat_map (λ d. d.places) (seen lent_docs) → map place_view places ≡ places_of_all texts
own_here texts docs lent_docs places read same are =
    are ∙ (ap (flat_map (λ (d : Document). d.places)) (ap seen same ∙ read) ∙ places_all texts)

-- the start of names in the texts
start_here : (texts : List (List ℕ)) (first found lent_start : List ℕ) → first ≡ own_start 1 → found ≡ longest first texts → lent_start ≡ found →
    lent_start ≡ start_of texts
start_here texts first found lent_start f e same = same ∙ (e ∙ ap (λ (s : List ℕ). longest s texts) f)

-- what is made of a start of names and of places is made of those of the texts
made_here : {A : Type 0} (f : List ℕ → List Place → A) (texts : List (List ℕ)) (start : List ℕ) (own lent_own : List CodePlace) → start ≡ start_of texts →
    lent_own ≡ own → map place_view own ≡ places_of_all texts → f start (map place_view lent_own) ≡ f (start_of texts) (places_of_all texts)
made_here f texts start own lent_own s same are =
    ap (λ (x : List ℕ). f x (map place_view lent_own)) s ∙ ap (f (start_of texts)) (ap (map place_view) same ∙ are)

pub returns-clause-places : goal.returns-clause-places
returns-clause-places c =
    let texts : List (List ℕ) = lent c.args.texts.now in
    c.in_ok-places.ensures
    ∙ (ap (λ (ps : List CodePlace). keyed c.args.by (map place_view ps)) c.as_slice-2.ensures.value
    ∙ ap (keyed c.args.by) (own_here texts c.in_ok-documents.documents.items c.as_slice.result.now c.in_ok-own.own.items c.in_ok-documents.ensures
    c.as_slice.ensures.value c.in_ok-own.ensures))

pub returns-clause-joins : goal.returns-clause-joins
returns-clause-joins c =
    subst (λ (ps : List Place). AreOutcomes ps (outcome_in c.in_ok-joins.joins))
    (ap (map place_view) c.as_slice-3.ensures.value ∙ returns-clause-places c) c.in_ok-joins.ensures

pub returns-clause-fonts : goal.returns-clause-fonts
returns-clause-fonts c =
    let texts : List (List ℕ) = lent c.args.texts.now in
    let new = new_texts (outcome_in c.in_ok-joins.joins) in
    c.in_ok-entries.ensures.bytes
    ∙ made_here (λ s ps. fonts_among c.args.least s c.args.by new ps) texts c.as_slice-start.result.now c.in_ok-own.own.items c.as_slice-4.result.now
    (start_here texts c.in_ok-from_slice.field-0.items c.in_ok-start.start.items c.as_slice-start.result.now c.in_ok-from_slice.ensures.items
    c.in_ok-start.ensures c.as_slice-start.ensures.value) c.as_slice-4.ensures.value
    (own_here texts c.in_ok-documents.documents.items c.as_slice.result.now c.in_ok-own.own.items c.in_ok-documents.ensures
    c.as_slice.ensures.value c.in_ok-own.ensures)

pub returns-clause-left : goal.returns-clause-left
returns-clause-left c =
    let texts : List (List ℕ) = lent c.args.texts.now in
    let new = new_texts (outcome_in c.in_ok-joins.joins) in
    c.in_ok-entries.ensures.left
    ∙ made_here (λ s ps. left_among c.args.least s c.args.by new ps) texts c.as_slice-start.result.now c.in_ok-own.own.items c.as_slice-4.result.now
    (start_here texts c.in_ok-from_slice.field-0.items c.in_ok-start.start.items c.as_slice-start.result.now c.in_ok-from_slice.ensures.items
    c.in_ok-start.ensures c.as_slice-start.ensures.value) c.as_slice-4.ensures.value
    (own_here texts c.in_ok-documents.documents.items c.as_slice.result.now c.in_ok-own.own.items c.in_ok-documents.ensures
    c.as_slice.ensures.value c.in_ok-own.ensures)

pub returns-clause-documents : goal.returns-clause-documents
returns-clause-documents c =
    let texts : List (List ℕ) = lent c.args.texts.now in
    let by = c.args.by in
    let new = new_texts (outcome_in c.in_ok-joins.joins) in
    let start = c.as_slice-start.result.now in
    let there = start_here texts c.in_ok-from_slice.field-0.items c.in_ok-start.start.items start c.in_ok-from_slice.ensures.items
    c.in_ok-start.ensures c.as_slice-start.ensures.value in
    let own = own_here texts c.in_ok-documents.documents.items c.as_slice.result.now c.in_ok-own.own.items c.in_ok-documents.ensures
    c.as_slice.ensures.value c.in_ok-own.ensures in
    let ends : text_in c.in_ok-entries.entries.ends ≡ ends_among c.args.least (start_of texts) by new (places_of_all texts) =
    λ i name. (c.in_ok-entries.ensures.ends name
    ∙ made_here (λ s ps. ends_among c.args.least s by new ps name) texts start c.in_ok-own.own.items c.as_slice-4.result.now there
    c.as_slice-4.ensures.value own) i in
    c.in_ok-lined.ensures
    ∙ (ap (map (lined_document start by (text_in c.in_ok-entries.entries.ends)))
    (ap seen c.as_slice-6.ensures.value ∙ c.in_ok-documents.ensures)
    ∙ (map_twice (lined_document start by (text_in c.in_ok-entries.entries.ends)) document_of texts
    ∙ (ap (λ (s : List ℕ). map (λ t. lined_document s by (text_in c.in_ok-entries.entries.ends) (document_of t)) texts) there
    ∙ ap (λ (e : NewTexts). map (λ t. lined_document (start_of texts) by e (document_of t)) texts) ends)))
