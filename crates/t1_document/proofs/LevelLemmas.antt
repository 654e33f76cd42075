-- Documents that are levelled, each by itself.
use Rattle.std.{proofs.Common.{◌≡◌, ◌<◌, ℕ, zero, suc, List, [], ◌∷◌, ◌++◌, length, get_or, map, refl, ap, arith}, specs.List.{AllByRecursion, flat_map}}
use Rattle.t1_document.specs.{declared.documents.Document.{Document as CodeDocument}, Documents.{Place, Document, document_of}, Joins.{places_of_all}}
use Rattle.t1_document.specs.Views.{document_view}

-- what is made of what was made
pub map_twice : {A B C : Type 0} (g : B → C) (f : A → B) (xs : List A) → map g (map f xs) ≡ map (λ x. g (f x)) xs
map_twice g f [] = refl
map_twice g f (x ∷ xs) = ap (λ ys. g (f x) ∷ ys) (map_twice g f xs)

-- the places of documents of texts
pub places_all : (texts : List (List ℕ)) → flat_map (λ (e : Document). e.places) (map document_of texts) ≡ places_of_all texts
places_all [] = refl
places_all (t ∷ ts) = ap (λ (ps : List Place). (document_of t).places ++ ps) (places_all ts)

-- what holds of the document of each text holds of each of these documents
pub of_documents : (P : Document → Type 0) (texts : List (List ℕ)) → AllByRecursion (λ t. P (document_of t)) texts → AllByRecursion P (map document_of texts)
of_documents P [] h = tt
of_documents P (t ∷ ts) h = (h.0, of_documents P ts h.1)

-- what holds of each document holds of the one at a place
pub document_has : (P : Document → Type 0) (ds : List CodeDocument) (i : ℕ) (d : CodeDocument) → i < length ds → AllByRecursion P (map document_view ds) →
    P (document_view (get_or ds i d))
document_has P [] i d lt h = absurd (omega (arith, lt))
document_has P (e ∷ ds) zero d lt h = h.0
document_has P (e ∷ ds) (suc i) d lt h = document_has P ds i d (omega (arith, lt)) h.1
