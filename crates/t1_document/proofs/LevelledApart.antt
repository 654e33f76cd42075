-- Two texts, levelled together and each by itself.
use Rattle.std.proofs.{Common.{◌≡◌, ℕ, Bool, true, false, cond, List, [], ◌∷◌, ◌++◌, map, Option, Some, None, refl, sym, ap, ◌∙◌, append_assoc}, lemmas.List.{map-append}}
use Rattle.std.proofs.{lemmas.List.Concat.{flat_map-append}, lemmas.List.Folds.{list_any-append}}
use Rattle.std.specs.{Prelude.{◌&&◌, ◌||◌}, List.{flat_map}, Str.{bytes_eq}}
use Rattle.t1_document.specs.{Lines.{breaks}, Documents.{Place, Document, place_bytes, document_bytes, behind_bytes, prepended, document_of, IsClosed, followed}}
use Rattle.t1_document.specs.{Rewriting.{NewTexts, is_barred, is_refused, standing, levelled, with_new, renewed}, Laws.{NoneRefused}}
use Rattle.t1_document.proofs.{PlaceLemmas.{prepended_bytes}, Rewritten.{level_renews}, JoinedDocuments.{joined_documents}}

-- with other bytes before it a place bars what it barred
refused_behind : (new : NewTexts) (name b : List ℕ) (ps : List Place) (last : List ℕ) →
    is_refused new (behind_bytes b ps last).places name ≡ is_refused new ps name
refused_behind new name b [] last = refl
refused_behind new name b (p ∷ ps) last = by_new (new p.name)
  where
    by_new : (o : Option (List ℕ)) → ((bytes_eq name p.name && is_barred o (record p { before = b ++ p.before })) || is_refused new ps name)
        ≡ ((bytes_eq name p.name && is_barred o p) || is_refused new ps name)
    by_new None = refl
    by_new (Some text) = refl

-- the bytes of a document behind another
followed_bytes : (d e : Document) → document_bytes (followed d e) ≡ document_bytes d ++ document_bytes e
followed_bytes d e =
    let x = prepended d.last e in
    ap (λ (t : List ℕ). t ++ x.last) (flat_map-append place_bytes d.places x.places)
    ∙ (append_assoc (flat_map place_bytes d.places) (flat_map place_bytes x.places) x.last
    ∙ (ap (λ (t : List ℕ). flat_map place_bytes d.places ++ t) (prepended_bytes d.last e)
    ∙ sym (append_assoc (flat_map place_bytes d.places) d.last (document_bytes e))))

-- a document whose places have these new texts
abbrev with_texts : NewTexts → Document → Document
with_texts new d = record { places = map (renewed new) d.places; last = d.last }

prepended_texts : (new : NewTexts) (b : List ℕ) (d : Document) → with_texts new (prepended b d) ≡ prepended b (with_texts new d)
prepended_texts new b d = by_places d.places d.last
  where
    by_new : (o : Option (List ℕ)) (p : Place) →
        with_new o (record p { before = b ++ p.before }) ≡ record (with_new o p) { before = b ++ (with_new o p).before }
    by_new None p = refl
    by_new (Some text) p = refl

    by_places : (ps : List Place) (last : List ℕ) →
        with_texts new (behind_bytes b ps last) ≡ prepended b (with_texts new (record { places = ps; last = last }))
    by_places [] last = refl
    by_places (p ∷ ps) last = ap (λ (q : Place). record { places = q ∷ map (renewed new) ps; last = last }) (by_new (new p.name) p)

followed_texts : (new : NewTexts) (d e : Document) → with_texts new (followed d e) ≡ followed (with_texts new d) (with_texts new e)
followed_texts new d e =
    ap (λ (ps : List Place). record { places = ps; last = (prepended d.last e).last }) (map-append (renewed new) d.places (prepended d.last e).places)
    ∙ ap (λ (x : Document). record { places = map (renewed new) d.places ++ x.places; last = x.last }) (prepended_texts new d.last e)

same_texts : (new other : NewTexts) → ((name : List ℕ) → other name ≡ new name) → (ps : List Place) → map (renewed other) ps ≡ map (renewed new) ps
same_texts new other same [] = refl
same_texts new other same (p ∷ ps) =
    ap (λ (o : Option (List ℕ)). with_new o p ∷ map (renewed other) ps) (same p.name)
    ∙ ap (λ (qs : List Place). renewed new p ∷ qs) (same_texts new other same ps)

-- where no name is refused, each place gets the text of its name
all_renewed : (new : NewTexts) (d : Document) → ((name : List ℕ) → is_refused new d.places name ≡ false) →
    document_bytes (record { places = map (renewed (standing new d.places)) d.places; last = d.last }) ≡ document_bytes (with_texts new d)
all_renewed new d none =
    ap (λ (ps : List Place). document_bytes (record { places = ps; last = d.last }))
    (same_texts new (standing new d.places) (λ name. ap (λ (b : Bool). cond b None (new name)) (none name)) d.places)

levelled_is : (new : NewTexts) (text : List ℕ) (d : Document) → document_of text ≡ d → ((name : List ℕ) → is_refused new d.places name ≡ false) →
    levelled new text ≡ document_bytes (with_texts new d)
levelled_is new text d is none =
    ap document_bytes (level_renews new (document_of text))
    ∙ (ap (λ (e : Document). document_bytes (record { places = map (renewed (standing new e.places)) e.places; last = e.last })) is ∙ all_renewed new d none)

none_refused : (new : NewTexts) (d e : Document) (name : List ℕ) → is_refused new d.places name ≡ false → is_refused new e.places name ≡ false →
    is_refused new (followed d e).places name ≡ false
none_refused new d e name h k =
    list_any-append (λ p. bytes_eq name p.name && is_barred (new p.name) p) d.places (prepended d.last e).places
    ∙ (ap (λ (b : Bool). b || is_refused new (prepended d.last e).places name) h ∙ (refused_behind new name d.last e.places e.last ∙ k))

-- both levelled are each levelled
pub levelled_apart : (new : NewTexts) (a b : List ℕ) → breaks a b ≡ true → IsClosed a → NoneRefused new a → NoneRefused new b →
    levelled new (a ++ b) ≡ levelled new a ++ levelled new b
levelled_apart new a b h closed none_a none_b =
    let d = document_of a in
    let e = document_of b in
    levelled_is new (a ++ b) (followed d e) (joined_documents a b h closed) (λ name. none_refused new d e name (none_a name) (none_b name))
    ∙ (ap document_bytes (followed_texts new d e)
    ∙ (followed_bytes (with_texts new d) (with_texts new e)
    ∙ (ap (λ (t : List ℕ). t ++ document_bytes (with_texts new e)) (sym (levelled_is new a d refl none_a))
    ∙ ap (λ (t : List ℕ). levelled new a ++ t) (sym (levelled_is new b e refl none_b)))))
