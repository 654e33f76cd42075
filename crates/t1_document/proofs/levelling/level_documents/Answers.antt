use Rattle.std.{proofs.Common.{◌≡◌, ℕ, List, None, cond, map, sym, ap, subst, ◌∙◌}, specs.List.{AllByRecursion, flat_map}}
use Rattle.t1_subset.specs.NameSets.{lent}
use Rattle.t1_document.specs.{declared.documents.Document.{Document as CodeDocument}, declared.documents.Place.{Place as CodePlace}}
use Rattle.t1_document.specs.{Documents.{Place, Document, document_of}, Rewriting.{NewTexts, document_levelled, levelled}, Laws.{NoneIsRefused, NoneRefused}}
use Rattle.t1_document.specs.{Groups.{outcome_in}, Joins.{Outcomes, AreOutcomes, lacks_name, new_texts, places_of_all}, Texts.{text_in}, Views.{place_view, document_view}}
use Rattle.t1_document.proofs.{LevelLemmas.{map_twice, places_all, of_documents}, NewTexts.{texts_are}, Again.{new_texts_stand}}
use Rattle.t1_document.proofs.levelling.level_documents.Goals as goal

-- documents as values
abbrev seen : List CodeDocument → List Document
seen ds = map document_view ds

-- documents that were read, lent
read_of : (texts : List (List ℕ)) (docs lent_docs : List CodeDocument) → seen docs ≡ map document_of texts → lent_docs ≡ docs →
    seen lent_docs ≡ map document_of texts
read_of texts docs lent_docs read same = ap seen same ∙ read

-- their places are those of the texts
places_here : (texts : List (List ℕ)) (lent_docs : List CodeDocument) (places : List CodePlace) → seen lent_docs ≡ map document_of texts →
    map place_view places ≡ flat_map (λ d. d.places) (seen lent_docs) → map place_view places ≡ places_of_all texts
places_here texts lent_docs places read are = are ∙ (ap (flat_map (λ (d : Document). d.places)) read ∙ places_all texts)

-- what these come to, for the texts
outcomes_here : (texts : List (List ℕ)) (places lent_places : List CodePlace) (outcomes : Outcomes) → map place_view places ≡ places_of_all texts →
    lent_places ≡ places → AreOutcomes (map place_view lent_places) outcomes → AreOutcomes (places_of_all texts) outcomes
outcomes_here texts places lent_places outcomes here same are =
    subst (λ (ps : List Place). AreOutcomes ps outcomes) (ap (map place_view) same ∙ here) are

-- the new texts that are noted are theirs
new_here : (places a b : List CodePlace) (outcomes : Outcomes) (new : NewTexts) → a ≡ places → b ≡ places → AreOutcomes (map place_view a) outcomes →
    ((name : List ℕ) → new name ≡ cond (lacks_name name (map place_view b)) None (new_texts outcomes name)) → new ≡ new_texts outcomes
new_here places a b outcomes new e k are is =
    texts_are (map place_view b) outcomes (subst (λ (ps : List CodePlace). AreOutcomes (map place_view ps) outcomes) (e ∙ sym k) are) new is

-- none of them is refused
none_refused : (texts : List (List ℕ)) (lent_docs : List CodeDocument) (outcomes : Outcomes) (new : NewTexts) → seen lent_docs ≡ map document_of texts →
    AreOutcomes (places_of_all texts) outcomes → new ≡ new_texts outcomes → AllByRecursion (NoneIsRefused new) (seen lent_docs)
none_refused texts lent_docs outcomes new read are is =
    subst (AllByRecursion (NoneIsRefused new)) (sym read)
    (of_documents (NoneIsRefused new) texts (subst (λ (n : NewTexts). AllByRecursion (NoneRefused n) texts) (sym is) (new_texts_stand texts outcomes are)))

pub each_levelled-requires : goal.each_levelled-requires
each_levelled-requires c =
    let texts : List (List ℕ) = lent c.args.texts.now in
    let docs = c.in_ok-documents.documents.items in
    let places = c.in_ok-places.places.items in
    let outcomes = outcome_in c.in_ok-joins.joins in
    let here = places_here texts c.as_slice.result.now places (read_of texts docs c.as_slice.result.now c.in_ok-documents.ensures c.as_slice.ensures.value)
    c.in_ok-places.ensures in
    none_refused texts c.as_slice-4.result.now outcomes (text_in c.in_ok-new.new)
    (read_of texts docs c.as_slice-4.result.now c.in_ok-documents.ensures c.as_slice-4.ensures.value)
    (outcomes_here texts places c.as_slice-2.result.now outcomes here c.as_slice-2.ensures.value c.in_ok-joins.ensures)
    (new_here places c.as_slice-2.result.now c.as_slice-3.result.now outcomes (text_in c.in_ok-new.new) c.as_slice-2.ensures.value c.as_slice-3.ensures.value
    c.in_ok-joins.ensures c.in_ok-new.ensures)

pub returns-clause-places : goal.returns-clause-places
returns-clause-places c =
    let texts : List (List ℕ) = lent c.args.texts.now in
    places_here texts c.as_slice.result.now c.in_ok-places.places.items
    (read_of texts c.in_ok-documents.documents.items c.as_slice.result.now c.in_ok-documents.ensures c.as_slice.ensures.value) c.in_ok-places.ensures

pub returns-clause-joins : goal.returns-clause-joins
returns-clause-joins c =
    let texts : List (List ℕ) = lent c.args.texts.now in
    outcomes_here texts c.in_ok-places.places.items c.as_slice-2.result.now (outcome_in c.in_ok-joins.joins)
    (places_here texts c.as_slice.result.now c.in_ok-places.places.items
    (read_of texts c.in_ok-documents.documents.items c.as_slice.result.now c.in_ok-documents.ensures c.as_slice.ensures.value) c.in_ok-places.ensures)
    c.as_slice-2.ensures.value c.in_ok-joins.ensures

pub returns-clause-texts : goal.returns-clause-texts
returns-clause-texts c =
    let texts : List (List ℕ) = lent c.args.texts.now in
    let new = text_in c.in_ok-new.new in
    let is = new_here c.in_ok-places.places.items c.as_slice-2.result.now c.as_slice-3.result.now (outcome_in c.in_ok-joins.joins) new
    c.as_slice-2.ensures.value c.as_slice-3.ensures.value c.in_ok-joins.ensures c.in_ok-new.ensures in
    c.in_ok-texts.ensures
    ∙ (ap (map (document_levelled new))
    (read_of texts c.in_ok-documents.documents.items c.as_slice-4.result.now c.in_ok-documents.ensures c.as_slice-4.ensures.value)
    ∙ (map_twice (document_levelled new) document_of texts ∙ ap (λ (n : NewTexts). map (levelled n) texts) is))
