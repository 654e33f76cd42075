-- The loops that list the places of fonts.
use Rattle.std.proofs.Common.{◌≡◌, ◌+◌, ◌<◌, ◌≤◌, ◌^◌, ℕ, Bool, true, false, cond, arith, List, [], ◌∷◌, ◌++◌, length, get_or, drop, map, filter, Option, sym, ap, subst, ◌∙◌, append_assoc}
use Rattle.std.proofs.{lemmas.Bool.{cond-true, cond-false}, lemmas.List.{drop_more, drop_all, append-nil, length-append, length-map, get_or-map}}
use Rattle.std.specs.{List.{flat_map}, Borrow.{Bor}}
use Rattle.t1_font.specs.FontModel.{clamp}
use Rattle.t1_subset.specs.NameSets.{lent}
use Rattle.t1_document.specs.{declared.documents.Place.{Place as CodePlace}, declared.joins.Outcome.{Outcome}, Documents.{Document, place_bytes, document_bytes, document_of}, Joins.{Outcomes}}
use Rattle.t1_document.specs.Views.{place_view}
use Rattle.t1_document.proofs.PlaceLemmas.{document_text}
use Rattle.t1_cmd.specs.FontPlaces.{place_line, place_lines, document_lines}

-- ---- the places of a document

-- the bytes of places
abbrev bytes_of : List CodePlace → List ℕ
bytes_of ps = flat_map place_bytes (map place_view ps)

-- the places of a text are within it
pub places_short : (text : List ℕ) (d : Document) → d ≡ document_of text → length (flat_map place_bytes d.places) ≤ length text
places_short text d is =
    let all : document_bytes d ≡ text = ap document_bytes is ∙ document_text text in
    omega (arith, ap length all, length-append (flat_map place_bytes d.places) d.last)

module _ (outcomes : Outcomes) (label : List ℕ) (start : List ℕ) (places : List CodePlace) where
  -- the lines of so many places are there, and the places behind them, which stand behind so many bytes, end within 64 bits
  pub record Lists (i : ℕ) (out : List ℕ) (at : ℕ) : Type 0 where
    pub lines : out ++ place_lines outcomes label at (map place_view (drop i places)) ≡ start ++ place_lines outcomes label 0 (map place_view places)
    pub short : at + length (bytes_of (drop i places)) < 2 ^ 64

  -- one more is listed
  pub listed_on : (i : ℕ) (out : List ℕ) (at : ℕ) → Lists i out at → (p : CodePlace) → drop i places ≡ p ∷ drop (i + 1) places →
      (o : Option Outcome) → o ≡ outcomes p.name.now → (more : List ℕ) (here next : ℕ) → here ≡ clamp (at + length p.before.now) →
      next ≡ clamp (at + length (place_bytes (place_view p))) → more ≡ out ++ place_line label here (place_view p) o → Lists (i + 1) more next
  listed_on i out at l p is o got more here next e f put =
      let own = place_bytes (place_view p) in
      let parts = length-append own (bytes_of (drop (i + 1) places)) in
      let inner = length-append p.before.now (p.text.now ++ p.rest.now) in
      let short = subst (λ (ps : List CodePlace). at + length (bytes_of ps) < 2 ^ 64) is l.short in
      let first : here ≡ at + length p.before.now = omega (arith, e, short, parts, inner) in
      let behind : next ≡ at + length own = omega (arith, f, short, parts) in
      let rest = place_lines outcomes label next (map place_view (drop (i + 1) places)) in
      record {
        lines = ap (λ (t : List ℕ). t ++ rest) put
            ∙ (append_assoc out (place_line label here (place_view p) o) rest
            ∙ (ap (λ (n : ℕ). out ++ (place_line label n (place_view p) o ++ rest)) first
            ∙ (ap (λ (x : Option Outcome). out ++ (place_line label (at + length p.before.now) (place_view p) x ++ rest)) got
            ∙ (ap (λ (n : ℕ). out ++ (place_line label (at + length p.before.now) (place_view p) (outcomes p.name.now)
            ++ place_lines outcomes label n (map place_view (drop (i + 1) places)))) behind
            ∙ (ap (λ (ps : List CodePlace). out ++ place_lines outcomes label at (map place_view ps)) (sym is) ∙ l.lines)))));
        short = omega (arith, behind, short, parts);
      }

  -- behind the last, all are
  pub all_listed : (i : ℕ) (out : List ℕ) (at : ℕ) → length places ≤ i → Lists i out at → out ≡ start ++ place_lines outcomes label 0 (map place_view places)
  all_listed i out at le l =
      sym (append-nil out)
      ∙ (ap (λ (ps : List CodePlace). out ++ place_lines outcomes label at (map place_view ps)) (sym (drop_all i places le)) ∙ l.lines)

-- ---- documents

-- where what is made of two lists is one list, the elements at a place are made to one
pub same_at : {A B C : Type 0} (f : A → C) (g : B → C) (xs : List A) (ys : List B) → map f xs ≡ map g ys → (i : ℕ) (d : A) (e : B) → i < length xs →
    f (get_or xs i d) ≡ g (get_or ys i e)
same_at f g xs ys same i d e lt =
    let long = ap length same in
    sym (get_or-map f xs i d (f d) lt)
    ∙ (ap (λ zs. get_or zs i (f d)) same ∙ get_or-map g ys i e (f d) (omega (arith, lt, long, length-map xs f, length-map ys g)))

-- and the lists are equally long
pub same_lengths : {A B C : Type 0} (f : A → C) (g : B → C) (xs : List A) (ys : List B) → map f xs ≡ map g ys → length xs ≡ length ys
same_lengths f g xs ys same = sym (length-map xs f) ∙ (ap length same ∙ length-map ys g)

module _ (outcomes : Outcomes) (labels texts : List (List ℕ)) (start : List ℕ) where
  -- the lines of so many documents are there
  abbrev pub ListsSoFar : ℕ → List ℕ → Type 0
  ListsSoFar i out = out ++ document_lines outcomes labels i (drop i texts) ≡ start ++ document_lines outcomes labels 0 texts

  -- one more is listed
  pub document_on : (i : ℕ) (text label out more : List ℕ) → ListsSoFar i out → i < length texts → text ≡ get_or texts i text → label ≡ get_or labels i [] →
      more ≡ out ++ place_lines outcomes label 0 (document_of text).places → ListsSoFar (i + 1) more
  document_on i text label out more so_far lt is named put =
      let rest = document_lines outcomes labels (i + 1) (drop (i + 1) texts) in
      let here : drop i texts ≡ text ∷ drop (i + 1) texts =
      drop_more texts i text lt ∙ ap (λ (t : List ℕ). t ∷ drop (i + 1) texts) (sym is) in
      ap (λ (t : List ℕ). t ++ rest) put
      ∙ (append_assoc out (place_lines outcomes label 0 (document_of text).places) rest
      ∙ (ap (λ (l : List ℕ). out ++ (place_lines outcomes l 0 (document_of text).places ++ rest)) named
      ∙ (ap (λ (ts : List (List ℕ)). out ++ document_lines outcomes labels i ts) (sym here) ∙ so_far)))

  -- behind the last, all are
  pub all_documents : (i : ℕ) (out : List ℕ) → length texts ≤ i → ListsSoFar i out → out ≡ start ++ document_lines outcomes labels 0 texts
  all_documents i out le so_far =
      sym (append-nil out) ∙ (ap (λ (ts : List (List ℕ)). out ++ document_lines outcomes labels i ts) (sym (drop_all i texts le)) ∙ so_far)

-- ---- counts

module _ (test : List ℕ → Bool) (names : List (Bor (List ℕ))) (i k m all : ℕ) (d : Bor (List ℕ)) (lt : i < length names) where
  -- what is left, of which this name is the first
  here : filter test (lent (drop i names))
      ≡ cond (test (get_or names i d).now) ((get_or names i d).now ∷ filter test (lent (drop (i + 1) names))) (filter test (lent (drop (i + 1) names)))
  here = ap (λ (ns : List (Bor (List ℕ))). filter test (lent ns)) (drop_more names i d lt)

  -- a name that passes the test is counted
  pub one_passes : test (get_or names i d).now ≡ true → m ≡ k + 1 → k + length (filter test (lent (drop i names))) ≡ all → k ≤ i →
      (m + length (filter test (lent (drop (i + 1) names))) ≡ all) × (m ≤ i + 1)
  one_passes passes more so_far le =
      let step = ap length (here ∙ cond-true _ _ _ passes) in
      (omega (arith, step, more, so_far), omega (arith, more, le))

  -- another is not
  pub one_fails : test (get_or names i d).now ≡ false → m ≡ k → k + length (filter test (lent (drop i names))) ≡ all → k ≤ i →
      (m + length (filter test (lent (drop (i + 1) names))) ≡ all) × (m ≤ i + 1)
  one_fails fails same so_far le =
      let step = ap length (here ∙ cond-false _ _ _ fails) in
      (omega (arith, step, same, so_far), omega (arith, same, le))
