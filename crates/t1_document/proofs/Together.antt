-- Two documents that are levelled as one text.
use Rattle.std.{proofs.{Common.{◌≡◌, ℕ, Bool, true, false, cond, refl, sym, ◌∙◌, ap, List, [], ◌∷◌, ◌++◌, map}, lemmas.List.{append-nil}}, specs.Str.{bytes_eq}}
use Rattle.t1_document.specs.{Documents.{Place, Document, behind_bytes, document_of, prepended, followed}, Rewriting.{levelled}, Joins.{places_of_all, places_under, new_texts}}
use Rattle.t1_document.specs.JoinLaws.{LevelledTogether}
use Rattle.t1_document.proofs.{Bare.{bare, come_alike}, JoinedDocuments.{joined_documents}, LevelledApart.{levelled_apart}, Again.{new_texts_stand}}

module _ (name : List ℕ) where
  -- places behind one more, of either list
  one_more : (p q : Place) → p.name ≡ q.name → bare p ≡ bare q → (ps qs : List Place) →
      map bare (places_under name ps) ≡ map bare (places_under name qs) →
      map bare (places_under name (p ∷ ps)) ≡ map bare (places_under name (q ∷ qs))
  one_more p q same alike ps qs h =
      by_test (bytes_eq p.name name)
      ∙ ap (λ (n : List ℕ). map bare (cond (bytes_eq n name) (q ∷ places_under name qs) (places_under name qs))) same
    where
      by_test : (b : Bool) → map bare (cond b (p ∷ places_under name ps) (places_under name ps))
          ≡ map bare (cond b (q ∷ places_under name qs) (places_under name qs))
      by_test true = λ i. alike i ∷ h i
      by_test false = h

  -- places behind some
  some_more : (rs ps qs : List Place) → map bare (places_under name ps) ≡ map bare (places_under name qs) →
      map bare (places_under name (rs ++ ps)) ≡ map bare (places_under name (rs ++ qs))
  some_more [] ps qs h = h
  some_more (r ∷ rs) ps qs h = one_more r r refl refl (rs ++ ps) (rs ++ qs) (some_more rs ps qs h)

  -- with other bytes before the first of them
  behind_alike : (b : List ℕ) (ps : List Place) (last : List ℕ) →
      map bare (places_under name ps) ≡ map bare (places_under name (behind_bytes b ps last).places)
  behind_alike b [] last = refl
  behind_alike b (p ∷ ps) last = one_more p (record p { before = b ++ p.before }) refl refl ps ps refl

-- the places of two documents and those of one behind the other
places_alike : (d e : Document) (name : List ℕ) →
    map bare (places_under name (d.places ++ (e.places ++ []))) ≡ map bare (places_under name ((followed d e).places ++ []))
places_alike d e name =
    ap (λ (ps : List Place). map bare (places_under name (d.places ++ ps))) (append-nil e.places)
    ∙ (some_more name d.places e.places (prepended d.last e).places (behind_alike name d.last e.places e.last)
    ∙ ap (λ (ps : List Place). map bare (places_under name ps)) (sym (append-nil (followed d e).places)))

pub levelled_together : LevelledTogether
levelled_together a b x y breaks closed h =
    let new = new_texts h.0 in
    let d = document_of a in
    let e = document_of b in
    let both : document_of (a ++ b) ≡ followed d e = joined_documents a b breaks closed in
    let stand = new_texts_stand (a ∷ b ∷ []) h.0 h.1 in
    let first : x ≡ levelled new a = ap head_of h.2 in
    let second : y ≡ levelled new b = ap (λ (ts : List (List ℕ)). head_of (tail_of ts)) h.2 in (
      h.0,
      λ name. come_alike name (places_under name (places_of_all (a ∷ b ∷ []))) (places_under name (places_of_all ((a ++ b) ∷ []))) (h.0 name)
          (places_alike d e name ∙ ap (λ (f : Document). map bare (places_under name (f.places ++ []))) (sym both)) (h.1 name),
      ap (λ (t : List ℕ). t ∷ []) ((λ i. first i ++ second i) ∙ sym (levelled_apart new a b breaks closed stand.0 stand.1.0)),
    )
  where
    head_of : List (List ℕ) → List ℕ
    head_of [] = []
    head_of (t ∷ ts) = t

    tail_of : List (List ℕ) → List (List ℕ)
    tail_of [] = []
    tail_of (t ∷ ts) = ts
