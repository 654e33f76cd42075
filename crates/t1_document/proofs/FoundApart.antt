-- What is found in documents that are pooled each by itself.
use Rattle.std.proofs.Common.{◌≡◌, ℕ, refl, sym, ◌∙◌, ap, subst, List, [], ◌∷◌, ◌++◌, map, replicate}
use Rattle.std.specs.List.{AllByRecursion}
use Rattle.std.specs.Prelude.{codes}
use Rattle.t1_document.specs.{Documents.{Place, document_of}, Rewriting.{NewTexts}}
use Rattle.t1_document.specs.{Joins.{new_texts, places_of_all}, Pooling.{keyed, entry_part, keys_of, line_ends, line_fates}}
use Rattle.t1_document.specs.{PoolLaws.{EntersAll, KeepsRest}, Apart.{start_of, entry_among, ends_among, fonts_apart, documents_apart}}
use Rattle.t1_document.specs.ApartLaws.{FindsAlways, PlacesFindApart, RestsStayApart, OnePooledApart, PooledApart}
use Rattle.t1_document.proofs.{NewTextsDraw.{all_sound}, RegularNames.{IsNamed, places_named}, Again.{own_of_all}, DefiningLines.{colons_regular}}
use Rattle.t1_document.proofs.{FreeStarts.{IsStart, the_longest, all_free}, OneOutcome.{one_outcome}, PlacesFind.{HasOwn, each_found, an_end, rests_stay}}

-- what holds of the places of two lists holds of those of both
both_hold : (P : Place → Type 0) (ps qs : List Place) → AllByRecursion P ps → AllByRecursion P qs → AllByRecursion P (ps ++ qs)
both_hold P [] qs h k = k
both_hold P (p ∷ ps) qs h k = (h.0, both_hold P ps qs h.1 k)

-- the names of the places of documents have regular bytes
all_named : (documents : List (List ℕ)) → AllByRecursion IsNamed (places_of_all documents)
all_named [] = tt
all_named (d ∷ ds) = both_hold IsNamed (document_of d).places (places_of_all ds) (places_named d) (all_named ds)

-- the start of names in documents is a slash and regular bytes
own_of : (s : List ℕ) → IsStart s → HasOwn s
own_of s (n, e) = (codes "pool" ++ replicate n 58, e, colons_regular n)

its_own : (documents : List (List ℕ)) → HasOwn (start_of documents)
its_own documents = own_of (start_of documents) (the_longest _ documents (1, refl)).is

places_find_apart : PlacesFindApart
places_find_apart least by documents bytes outcomes are before setup =
    let ps = places_of_all documents in
    let new = new_texts outcomes in
    let s = its_own documents in
    subst (λ (start : List ℕ). EntersAll start (map (λ key. entry_part start key (entry_among least start by new ps key)) (keys_of start by ps)) before setup →
    AllByRecursion (FindsAlways start setup) (line_fates start by (line_ends (entry_among least start by new ps) (keys_of start by ps)) ps))
    (sym s.1) (each_found least by ps (all_sound documents bytes) (all_named documents) (own_of_all documents) outcomes are s.0 s.2 before setup)

rests_stay_apart : RestsStayApart
rests_stay_apart least by new documents = each documents
  where
    each : (ds : List (List ℕ)) → AllByRecursion (λ d. AllByRecursion KeepsRest
        (line_fates (start_of documents) by (ends_among least (start_of documents) by new (places_of_all documents)) (document_of d).places)) ds
    each [] = tt
    each (d ∷ ds) =
        let start = start_of documents in
        let ps = places_of_all documents in
        let s = its_own documents in (
          rests_stay start s.0 by (ends_among least start by new ps) s.1 s.2 (an_end (entry_among least start by new ps) (keys_of start by ps))
              (document_of d).places (places_named d),
          each ds,
        )

one_pooled_apart : OnePooledApart
one_pooled_apart least by documents f g a b h k =
    let ps = keyed by (places_of_all documents) in
    let same : new_texts h.0 ≡ new_texts k.0 = λ i name. one_outcome ps h.0 k.0 h.1 k.1 name i in (
      h.2 ∙ (ap (λ (new : NewTexts). fonts_apart least by new documents) same ∙ sym k.2),
      h.3 ∙ (ap (λ (new : NewTexts). documents_apart least by new documents) same ∙ sym k.3),
    )

pub pooled_apart : PooledApart
pooled_apart = record {
  finds = places_find_apart;
  rests = rests_stay_apart;
  free = λ documents. all_free _ documents (1, refl);
  one = one_pooled_apart;
}
