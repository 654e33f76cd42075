-- Documents one behind the other, lines of lists, and names as texts and with lines.
use Rattle.std.proofs.Common.{◌≡◌, ◌≤◌, ◌<◌, ◌+◌, ℕ, Bool, true, false, cond, List, [], ◌∷◌, ◌++◌, length, get_or, take, drop, map}
use Rattle.std.proofs.Common.{Option, Some, None, is_some, Bor, arith, refl, sym, ap, ◌∙◌, append_assoc}
use Rattle.std.proofs.{Math.Bool.{or-false}, lemmas.List.{length-append, drop_more, drop_all, append-nil, take_more, map-append}, lemmas.List.Folds.{list_any-append}}
use Rattle.std.specs.{Prelude.{◌||◌}, List.{flat_map}, Str.{bytes_eq}}
use Rattle.t1_document.specs.{declared.texts.Texts.{Texts}, Lines.{breaks, with_document, behind_documents}, Rewriting.{is_seen}, Texts.{text_in, has_text}}
use Rattle.t1_document.specs.{declared.documents.Place.{Place as CodePlace}, Documents.{Place}, Joins.{Outcomes}, Views.{place_view}}
use Rattle.t1_document.proofs.WriteLoop.{same_test}
use Rattle.t1_cmd.specs.Documents.{told_of, told_lines}

-- documents behind others are no shorter
with_longer : (b : Bool) (text d : List ℕ) → length text ≤ length (cond b (text ++ d) ((text ++ 10 ∷ []) ++ d))
with_longer true text d = omega (arith, length-append text d)
with_longer false text d = omega (arith, length-append (text ++ 10 ∷ []) d, length-append text (10 ∷ []))

pub documents_longer : (text : List ℕ) (ds : List (List ℕ)) → length text ≤ length (behind_documents text ds)
documents_longer text [] = omega arith
documents_longer text (d ∷ ds) =
    let one = with_longer (breaks text d) text d in
    let rest = documents_longer (with_document text d) ds in
    omega (arith, one, rest)

-- ---- lines, one for each of a list

module _ {X : Type 0} (line : X → List ℕ) where
  -- one line more
  pub line_more : (xs : List X) (i : ℕ) (d : X) (old new : List ℕ) → i < length xs → old ++ flat_map line (drop i xs) ≡ flat_map line xs →
      new ≡ old ++ line (get_or xs i d) → new ++ flat_map line (drop (i + 1) xs) ≡ flat_map line xs
  line_more xs i d old new lt so_far more =
      let rest : List ℕ = flat_map line (drop (i + 1) xs) in
      ap (λ (t : List ℕ). t ++ rest) more
      ∙ (append_assoc old (line (get_or xs i d)) rest ∙ (ap (λ (l : List X). old ++ flat_map line l) (sym (drop_more xs i d lt)) ∙ so_far))

  -- behind the last, all are there
  pub lines_all : (xs : List X) (i : ℕ) (text : List ℕ) → length xs ≤ i → text ++ flat_map line (drop i xs) ≡ flat_map line xs → text ≡ flat_map line xs
  lines_all xs i text all so_far =
      sym (append-nil text) ∙ (ap (λ (l : List X). text ++ flat_map line l) (sym (drop_all i xs all)) ∙ so_far)

-- ---- names as texts

-- there is a text here, or there was one
some_or : (b : Bool) (text : List ℕ) (o : Option (List ℕ)) → is_some (cond b (Some text) o) ≡ is_some o || b
some_or true text None = refl
some_or false text None = refl
some_or true text (Some x) = refl
some_or false text (Some x) = refl

module _ (names : List (Bor (List ℕ))) where
  -- so many of the names
  abbrev first_of : ℕ → List (List ℕ)
  first_of i = map (λ n. n.now) (take i names)

  -- one name more
  pub text_more : (i : ℕ) (d : Bor (List ℕ)) → i < length names → (t u : Texts) →
      ((other : List ℕ) → has_text t other ≡ is_seen (first_of i) other) →
      ((other : List ℕ) → text_in u other ≡ cond (bytes_eq (get_or names i d).now other) (Some (get_or names i d).now) (text_in t other)) →
      (other : List ℕ) → has_text u other ≡ is_seen (first_of (i + 1)) other
  text_more i d lt t u was put other =
      let name = (get_or names i d).now in
      ap (λ (o : Option (List ℕ)). is_some o) (put other)
      ∙ (some_or (bytes_eq name other) name (text_in t other)
      ∙ (ap (λ (b : Bool). b || bytes_eq name other) (was other)
      ∙ (ap (λ (b : Bool). is_seen (first_of i) other || b) (sym (or-false (bytes_eq other name) ∙ same_test other name))
      ∙ (sym (list_any-append (bytes_eq other) (first_of i) (name ∷ []))
      ∙ ap (λ (ns : List (List ℕ)). is_seen ns other) (sym (ap (map (λ (n : Bor (List ℕ)). n.now)) (take_more names i d lt)
      ∙ map-append (λ n. n.now) (take i names) (get_or names i d ∷ [])))))))

  -- and its line
  pub lines_more : (line : List ℕ → List ℕ) (i : ℕ) (d : Bor (List ℕ)) → i < length names → (old : List (List ℕ)) (own : List ℕ) (new : List (List ℕ)) →
      old ≡ map line (first_of i) → own ≡ line (get_or names i d).now → new ≡ old ++ own ∷ [] → new ≡ map line (first_of (i + 1))
  lines_more line i d lt old own new was is put =
      put
      ∙ (ap (λ (ls : List (List ℕ)). ls ++ own ∷ []) was
      ∙ (ap (λ (l : List ℕ). map line (first_of i) ++ l ∷ []) is
      ∙ (sym (map-append line (first_of i) ((get_or names i d).now ∷ []))
      ∙ ap (map line) (sym (ap (map (λ (n : Bor (List ℕ)). n.now)) (take_more names i d lt)
      ∙ map-append (λ n. n.now) (take i names) (get_or names i d ∷ []))))))

-- ---- what is told of keys

-- what is told of keys and places that are lent is told of these
pub told_so : (outcomes : Outcomes) (lent_left left_items : List (Bor (List ℕ))) (lent_places place_items : List CodePlace) (left : List (List ℕ))
    (places : List Place) → lent_left ≡ left_items → lent_places ≡ place_items → map (λ k. k.now) left_items ≡ left → map place_view place_items ≡ places →
    told_lines (told_of (map (λ k. k.now) lent_left) outcomes) (map place_view lent_places) ≡ told_lines (told_of left outcomes) places
told_so outcomes lent_left left_items lent_places place_items left places l p is are =
    ap (λ (ks : List (List ℕ)). told_lines (told_of ks outcomes) (map place_view lent_places)) (ap (map (λ (k : Bor (List ℕ)). k.now)) l ∙ is)
    ∙ ap (told_lines (told_of left outcomes)) (ap (map place_view) p ∙ are)
