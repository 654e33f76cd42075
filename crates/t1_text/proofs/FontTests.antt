-- The test whether a font was loaded before, as it is read and sought.
use Rattle.std.proofs.Common.{◌≡◌, ℕ, zero, suc, ◌+◌, ◌-◌, ◌<◌, ◌≤◌, arith, List, [], ◌∷◌, ◌++◌, take, map, length, drop, get_or, Option, Some, None, Bor, inl, inr, refl, sym, ap, ◌∙◌, append_assoc}
use Rattle.std.proofs.{Common.{subst, true, false}, lemmas.List.{drop_more, drop_all, drop_at, drop-drop, length-take-le, length-drop, length-append}, lemmas.Bool.{cases_Bool, cases_lt}}
use Rattle.std.proofs.lemmas.Option.{none-some, same_Some}
use Rattle.std.specs.{Option.{option_and_then, option_map}}
use Rattle.t1_grammar.specs.{Grammar.{Grammar, NoneIn, first, count, unread}, Places.{NoneBelow, first_found, first_nowhere, one_more, unread_lacks}}
use Rattle.t1_text.specs.FontTest.{token, test_tokens, font_test, precedes_test, apart_test, found_test, place_and_around}
use Rattle.t1_text.proofs.Untested.{begins_test}

-- ---- tokens

-- behind a token that is read the others are read
pub token_read : (w : List ℕ) (ws : List (List ℕ)) (bytes rest : List ℕ) → Some rest ≡ option_map (λ x. x.1) ((token w).read bytes) →
    (test_tokens (w ∷ ws)).read bytes ≡ (test_tokens ws).read rest
unfolding test_tokens
token_read w ws bytes rest e = by_read ((token w).read bytes) e
  where
    by_read : (o : Option (Unit {0} × List ℕ)) → Some rest ≡ option_map (λ x. x.1) o →
        option_and_then (λ x. (test_tokens ws).read x.1) o ≡ (test_tokens ws).read rest
    by_read None e = absurd (none-some rest (sym e))
    by_read (Some x) e = ap (λ (u : List ℕ). (test_tokens ws).read u) (same_Some x.1 rest (sym e))

-- where a token isn't read, none are
pub token_absent : (w : List ℕ) (ws : List (List ℕ)) (bytes : List ℕ) → None ≡ option_map (λ x. x.1) ((token w).read bytes) →
    (test_tokens (w ∷ ws)).read bytes ≡ None
unfolding test_tokens
token_absent w ws bytes e = by_read ((token w).read bytes) e
  where
    by_read : (o : Option (Unit {0} × List ℕ)) → None ≡ option_map (λ x. x.1) o → option_and_then (λ x. (test_tokens ws).read x.1) o ≡ None
    by_read None e = refl
    by_read (Some x) e = absurd (none-some x.1 e)

-- what is read behind some tokens, in memory
abbrev pub behind_words : List (Bor (List ℕ)) → List ℕ → Option (List ℕ)
behind_words ws bytes = option_map (λ x. x.1) ((test_tokens (map (λ w. w.now) ws)).read bytes)

module _ (ws : List (Bor (List ℕ))) (i : ℕ) (d : Bor (List ℕ)) (bytes : List ℕ) (lt : i < length ws) where
  -- what is read behind words is what is read behind the first of them and the others
  next_word : behind_words (drop i ws) bytes ≡ behind_words (get_or ws i d ∷ drop (i + 1) ws) bytes
  next_word = ap (λ (us : List (Bor (List ℕ))). behind_words us bytes) (drop_more ws i d lt)

  -- one word more is read
  pub word_read : (rest : List ℕ) → Some rest ≡ option_map (λ x. x.1) ((token (get_or ws i d).now).read bytes) →
      behind_words (drop (i + 1) ws) rest ≡ behind_words (drop i ws) bytes
  word_read rest e = sym (next_word ∙ ap (option_map (λ x. x.1)) (token_read (get_or ws i d).now (map (λ w. w.now) (drop (i + 1) ws)) bytes rest e))

  -- a word is not
  pub word_absent : None ≡ option_map (λ x. x.1) ((token (get_or ws i d).now).read bytes) → None ≡ behind_words (drop i ws) bytes
  word_absent e = sym (next_word ∙ ap (option_map (λ x. x.1)) (token_absent (get_or ws i d).now (map (λ w. w.now) (drop (i + 1) ws)) bytes e))

-- all words are read
pub words_read : (ws : List (Bor (List ℕ))) (i : ℕ) (bytes : List ℕ) → length ws ≤ i → Some bytes ≡ behind_words (drop i ws) bytes
unfolding test_tokens
words_read ws i bytes h = ap (λ (us : List (Bor (List ℕ))). behind_words us bytes) (sym (drop_all i ws h))

-- ---- the search

-- a head behind the line's end that is thought to stand before it
abbrev pub padded : List ℕ → List ℕ
padded head = 10 ∷ head

-- at a place there stands the byte before it, and the head from there on
pub padded_at : (head : List ℕ) (place : ℕ) → place ≤ length head → drop place (padded head) ≡ get_or (padded head) place 0 ∷ drop place head
padded_at head place le =
    let next : place + 1 ≡ suc place = omega arith in
    drop_more (padded head) place 0 (omega (arith, le)) ∙ ap (λ (k : ℕ). get_or (padded head) place 0 ∷ drop k (padded head)) next

-- one byte is read
one_of : (b : ℕ) (bs : List ℕ) → (count 1).read (b ∷ bs) ≡ Some (b ∷ [], bs)
one_of b bs = (count 1).again (b ∷ []) (b ∷ []) bs (refl, refl)

-- no test stands apart behind a byte that none may follow
pub no_break : (b : ℕ) (bs : List ℕ) → precedes_test b ≡ false → apart_test.read (b ∷ bs) ≡ None
unfolding apart_test
no_break b bs h = rw (one_of b bs, h) refl

-- behind another byte one stands apart where one is read
pub one_break : (b : ℕ) (bs : List ℕ) → precedes_test b ≡ true → apart_test.read (b ∷ bs) ≡ option_and_then (λ x. Some (b ∷ [], x.1)) (font_test.read bs)
unfolding apart_test
one_break b bs h = rw (one_of b bs, h) refl

-- what stands before a place and the byte at it, behind the first byte
front_of : (k : ℕ) (x : ℕ) (xs rest : List ℕ) → k ≤ length xs → take k (x ∷ xs) ++ (get_or (x ∷ xs) k 0 ∷ rest) ≡ x ∷ (take k xs ++ rest)
front_of zero x xs rest le = refl
front_of (suc k) x [] rest le = absurd (omega (arith, le))
front_of (suc k) x (y ∷ ys) rest le = ap (λ (u : List ℕ). x ∷ u) (front_of k y ys rest (omega (arith, le)))

-- a grammar can be read at no place of a text before which it stands nowhere
none_at : {A : Type 0} (g : Grammar A) (front after : List ℕ) → NoneIn g front after → (k : ℕ) → k < length front → g.read (drop k (front ++ after)) ≡ None
none_at g [] after none k lt = absurd (omega (arith, lt))
none_at g (b ∷ front) after none zero lt = unread g (b ∷ (front ++ after)) none.0
none_at g (b ∷ front) after none (suc k) lt = none_at g front after none.1 k (omega (arith, lt))

-- the same at a place that is counted from another
later : (head : List ℕ) (from k : ℕ) → from ≤ k → drop k head ≡ drop (k - from) (drop from head)
later head from k le = ap (λ (n : ℕ). drop n head) (omega (arith, le)) ∙ sym (drop-drop (k - from) from head)

-- where no test is read, none stands apart
none_apart : (head : List ℕ) (k : ℕ) → k ≤ length head → font_test.read (drop k head) ≡ None → apart_test.read (drop k (padded head)) ≡ None
none_apart head k le none = ap apart_test.read (padded_at head k le) ∙ elim (cases_Bool (precedes_test (get_or (padded head) k 0))) [
  | inl t ↦ one_break _ _ t ∙ ap (option_and_then _) none
  | inr t ↦ no_break _ _ t
]

-- no test stands apart before a place, where none did before another and none is read between them
none_between : (head : List ℕ) (from to : ℕ) → to ≤ length head + 1 → NoneBelow apart_test (padded head) from →
    ((k : ℕ) → from ≤ k → k < to → font_test.read (drop k head) ≡ None) → NoneBelow apart_test (padded head) to
none_between head from to le none absent k h = elim (cases_lt k from) [
  | inl lt ↦ none k lt
  | inr ge ↦ none_apart head k (omega (arith, le, h)) (absent k ge h)
]

-- a test that is met from a place of a head on: it stands in the head, and none is read between that place and its own
pub record Met (head : List ℕ) (from place : ℕ) (behind : List ℕ) : Type 0 where
  pub below : from ≤ place
  pub within : place < length head
  pub here : font_test.read (drop place head) ≡ Some (tt, behind)
  pub absent : (k : ℕ) → from ≤ k → k < place → font_test.read (drop k head) ≡ None

-- what is sought from a place on is met so
pub met : (head : List ℕ) (from : ℕ) (x : (List ℕ × Unit {0}) × List ℕ) → from ≤ length head → (first font_test).read (drop from head) ≡ Some x →
    Met head from (from + length x.0.0) x.1
met head from x le e =
    let s = (first font_test).takes (drop from head) x e in
    let front : List ℕ = x.0.0 in
    let own : List ℕ = s.2.0 in
    let parts : drop from head ≡ front ++ (own ++ x.1) = s.1 ∙ (ap (λ (u : List ℕ). u ++ x.1) s.2.1 ∙ append_assoc front own x.1) in
    let there : drop (from + length front) head ≡ own ++ x.1 =
    sym (drop-drop (length front) from head) ∙ (ap (drop (length front)) parts ∙ drop_at front (own ++ x.1) (length front) refl) in
    let f = begins_test own x.1 s.2.2 in
    record {
      below = omega arith;
      within = omega (
        arith,
        le,
        length-drop from head,
        ap length parts,
        length-append front (own ++ x.1),
        length-append own x.1,
        ap length f.1,
      );
      here = ap font_test.read there ∙ font_test.again tt own x.1 s.2.2;
      absent = λ k low high. ap font_test.read (later head from k low ∙ ap (drop (k - from)) parts)
          ∙ none_at font_test front (own ++ x.1) s.2.3 (k - from) (omega (arith, low, high));
    }

-- the place of a test that was sought from a place on, and what stands behind it
abbrev pub place_from : ℕ → Option ((List ℕ × Unit {0}) × List ℕ) → Option (ℕ × List ℕ)
place_from from o = option_map (λ x. (from + length x.0.0, x.1)) o

-- the same by its place
pub met_there : (head : List ℕ) (from place : ℕ) (behind : List ℕ) → from ≤ length head →
    Some (place, behind) ≡ place_from from ((first font_test).read (drop from head)) → Met head from place behind
met_there head from place behind le e = by_read ((first font_test).read (drop from head)) refl e
  where
    by_read : (o : Option ((List ℕ × Unit {0}) × List ℕ)) → (first font_test).read (drop from head) ≡ o → Some (place, behind) ≡ place_from from o →
        Met head from place behind
    by_read None h e = absurd (none-some (place, behind) (sym e))
    by_read (Some x) h e =
        subst (λ (y : ℕ × List ℕ). Met head from y.0 y.1) (same_Some (from + length x.0.0, x.1) (place, behind) (sym e)) (met head from x le h)

module _ (head : List ℕ) (from place : ℕ) (behind : List ℕ) (none : NoneBelow apart_test (padded head) from) (m : Met head from place behind) where
  -- no test stands apart before it
  none_before : NoneBelow apart_test (padded head) place
  none_before = none_between head from place (omega (arith, m.within)) none m.absent

  -- a test that is met where no word goes on is the first
  pub found_there : precedes_test (get_or (padded head) place 0) ≡ true →
      Some (length (take place head), take place head ++ behind) ≡ option_map place_and_around (found_test head)
  found_there h =
      let b : ℕ = get_or (padded head) place 0 in
      let read : apart_test.read (drop place (padded head)) ≡ Some (b ∷ [], behind) = ap apart_test.read (padded_at head place (omega (arith, m.within)))
      ∙ (one_break b (drop place head) h ∙ ap (option_and_then (λ x. Some (b ∷ [], x.1))) m.here) in
      let same : length (take place (padded head)) ≡ length (take place head) = length-take-le place (padded head) (omega (arith, m.within))
      ∙ sym (length-take-le place head (omega (arith, m.within))) in
      sym (ap (option_map place_and_around) (first_found apart_test (padded head) place (b ∷ []) behind (omega (arith, m.within)) none_before read)
      ∙ (λ i. Some (same i, drop 1 (front_of place 10 head behind (omega (arith, m.within)) i))))

  -- one that is met in a word is passed
  pub passed_there : precedes_test (get_or (padded head) place 0) ≡ false → NoneBelow apart_test (padded head) (place + 1)
  passed_there h = one_more apart_test (padded head) place none_before
      (ap apart_test.read (padded_at head place (omega (arith, m.within))) ∙ no_break (get_or (padded head) place 0) (drop place head) h)

-- where none is met any more, none is found
pub nowhere_there : (head : List ℕ) (from : ℕ) → NoneBelow apart_test (padded head) from → None ≡ place_from from ((first font_test).read (drop from head)) →
    None ≡ option_map place_and_around (found_test head)
unfolding apart_test
nowhere_there head from none e =
    let lacks = unread_lacks font_test (drop from head) (no_place ((first font_test).read (drop from head)) e) in
    let absent : (k : ℕ) → from ≤ k → k < length head + 1 → font_test.read (drop k head) ≡ None =
    λ k low high. ap font_test.read (later head from k low)
    ∙ unread font_test (drop (k - from) (drop from head)) (lacks (k - from)) in
    let last : apart_test.read (drop (length head + 1) (padded head)) ≡ None = ap apart_test.read (drop_all (length head + 1) (padded head) (omega arith)) in
    let nowhere : NoneBelow apart_test (padded head) (length head + 1 + 1) =
    one_more apart_test (padded head) (length head + 1) (none_between head from (length head + 1) (omega arith) none absent) last in
    sym (ap (option_map place_and_around) (first_nowhere apart_test (padded head) (λ k h. nowhere k (omega (arith, h)))))
  where
    no_place : (o : Option ((List ℕ × Unit {0}) × List ℕ)) → None ≡ place_from from o → o ≡ None
    no_place None e = refl
    no_place (Some x) e = absurd (none-some (from + length x.0.0, x.1) e)
