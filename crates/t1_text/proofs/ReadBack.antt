-- The end of the font, the phrases and the end of the clear text, read again from what was kept of them.
use Rattle.std.proofs.Common.{◌≡◌, ℕ, ◌≤◌, inl, inr, Bool, true, false, cond, eqb, List, [], ◌∷◌, ◌++◌, length, take, drop, Option, Some, None, refl, sym, ap, ◌∙◌, append_assoc, arith}
use Rattle.std.proofs.{lemmas.Option.{none-some}, lemmas.Bool.{cases_Bool}, lemmas.List.{append-nil, length-append}}
use Rattle.std.specs.{Prelude.{codes}, List.{prefix_len}, Option.{option_map, option_and_then}}
use Rattle.t1_grammar.specs.Grammar.{Grammar, pure, ◌>>=◌, ◌>>◌, before, NoneIn, Stops, first, first_at, fixed, unspelled, unread}
use Rattle.t1_bytes.specs.{White.{is_white, has_bytes, gap}, Eexec.{eexec_marker, blank_comes}}
use Rattle.t1_text.specs.{Words.{is_regular, word, phrase_of, phrase_after, is_access}, Markers.{closefile}}
use Rattle.t1_text.proofs.{Borders.{strip, fixed_strip}, Written.{black, word_has}, Moves.{first_behind, run_front}}

-- a text that can't stand within bytes that are long enough for it can't stand there whatever follows
strip_long : (w xs u v : List ℕ) → length w ≤ length xs → strip w (xs ++ u) ≡ None → strip w (xs ++ v) ≡ None
strip_long [] xs u v h e = absurd (none-some _ (sym e))
strip_long (c ∷ w) [] u v h e = absurd (omega arith)
strip_long (c ∷ w) (b ∷ xs) u v h e = elim (cases_Bool (eqb c b)) [
  | inl t ↦ let k : strip w (xs ++ u) ≡ None = rw t at e in rw t (strip_long w xs u v (omega arith) k)
  | inr t ↦ rw t refl
]

none_strip : (w bytes : List ℕ) → (fixed w).read bytes ≡ None → strip w bytes ≡ None
none_strip w bytes h = by_strip (strip w bytes) refl
  where
    by_strip : (o : Option (List ℕ)) → strip w bytes ≡ o → o ≡ None
    by_strip None e = refl
    by_strip (Some r) e = let k : ◌≡◌ {A = Option (List ℕ × List ℕ)} (Some (w, r)) None =
        sym (fixed_strip w bytes ∙ ap (option_and_then (λ r. Some (w, r))) e) ∙ h in absurd (none-some _ (sym k))

none_shrinks : (w front own u v : List ℕ) → length w ≤ length own → NoneIn (fixed w) front (own ++ u) → NoneIn (fixed w) front (own ++ v)
none_shrinks w [] own u v h n = tt
none_shrinks w (b ∷ front) own u v h n =
    let before : strip w (((b ∷ front) ++ own) ++ u) ≡ None =
    ap (λ (t : List ℕ). strip w (b ∷ t)) (append_assoc front own u)
    ∙ none_strip w (b ∷ (front ++ (own ++ u))) (unread (fixed w) (b ∷ (front ++ (own ++ u))) n.0) in
    let after : strip w (b ∷ (front ++ (own ++ v))) ≡ None =
    ap (λ (t : List ℕ). strip w (b ∷ t)) (sym (append_assoc front own v))
    ∙ strip_long w ((b ∷ front) ++ own) u v (omega (arith, length-append front own)) before in (
      unspelled (fixed w) (b ∷ (front ++ (own ++ v))) (fixed_strip w (b ∷ (front ++ (own ++ v)))
          ∙ ap (option_and_then (λ r. Some (w, r))) after),
      none_shrinks w front own u v h n.1,
    )

-- the first `closefile` of a text is the first of the text through it, and ends it
pub tail_ends_of : (bytes : List ℕ) (x : (List ℕ × List ℕ) × List ℕ) → (first closefile).read bytes ≡ Some x →
    option_map (λ y. y.1) ((first closefile).read (x.0.0 ++ x.0.1)) ≡ Some []
unfolding closefile
tail_ends_of bytes x e =
    let w : List ℕ = codes "closefile" in
    let s = (first (fixed w)).takes bytes x e in
    let own_is : s.2.0 ≡ x.0.1 = s.2.2.0.0 in
    let long : length w ≤ length s.2.0 = omega (arith, ap length own_is, s.2.2.0.1) in
    let none : NoneIn (fixed w) x.0.0 (s.2.0 ++ []) = none_shrinks w x.0.0 s.2.0 x.1 [] long s.2.3 in
    let read : (fixed w).read (s.2.0 ++ []) ≡ Some (x.0.1, []) = (fixed w).again x.0.1 s.2.0 [] s.2.2 in
    let found : first_at (fixed w) (x.0.0 ++ (s.2.0 ++ [])) ≡ Some ((x.0.0, x.0.1), []) = first_behind (fixed w) x.0.0 (s.2.0 ++ []) x.0.1 [] none read in
    let text : x.0.0 ++ x.0.1 ≡ x.0.0 ++ (s.2.0 ++ []) = ap (λ (t : List ℕ). x.0.0 ++ t) (sym own_is ∙ sym (append-nil s.2.0)) in
    ap (λ (t : List ℕ). option_map (λ y. y.1) (first_at (fixed w) t)) text ∙ ap (option_map (λ y. y.1)) found

-- a phrase that was read, with one blank inside, spells itself
after_whole : (test : List ℕ → Bool) (access : Bool) (first p text rest : List ℕ) → (phrase_after test access first).Spells p text rest →
    (more : List ℕ) × (p ≡ first ++ more) × Stops is_regular (more ++ []) × (phrase_after test access first).Spells p more []
unfolding gap word
after_whole test false first p text rest s = ([], sym s.1 ∙ sym (append-nil first), tt, (refl, s.1))
after_whole test true first p text rest s =
    let w = s.0.5 in
    let second : List ℕ = w.0 in (
      32 ∷ second,
      sym w.5.1 ∙ append_assoc first (32 ∷ []) second,
      refl,
      (
        (
          32 ∷ [],
          32 ∷ [],
          second,
          refl,
          ((refl, (refl, tt), black second [] w.4.0.0.1 (word_has second w.4.0.1)), refl),
          (second, second, [], sym (append-nil second), (((refl, w.4.0.0.1, tt), w.4.0.1), w.4.1), (refl, w.5.1)),
        ),
        s.1,
      ),
    )

spells_itself : (test : List ℕ → Bool) (p text rest : List ℕ) → (phrase_of test).Spells p text rest → (phrase_of test).Spells p p []
unfolding phrase_of word
spells_itself test p text rest s =
    let a = after_whole test (is_access s.0) s.0 p s.2 rest s.5 in
    (s.0, s.0, a.0, a.1, (((refl, s.4.0.0.1, a.2), s.4.0.1), s.4.1), a.3)

-- and is read as a whole
pub whole_of : (test : List ℕ → Bool) (p text rest : List ℕ) → (phrase_of test).Spells p text rest → (phrase_of test).read p ≡ Some (p, [])
whole_of test p text rest s = ap (phrase_of test).read (sym (append-nil p)) ∙ (phrase_of test).again p p [] (spells_itself test p text rest s)

-- ---- the end of the clear text, before another blank

strip_inner : (w t u : List ℕ) → length w ≤ length t → strip w (t ++ u) ≡ option_map (λ r. r ++ u) (strip w t)
strip_inner [] t u h = refl
strip_inner (c ∷ w) [] u h = absurd (omega arith)
strip_inner (c ∷ w) (b ∷ t) u h = elim (cases_Bool (eqb c b)) [
  | inl e ↦ rw e (strip_inner w t u (omega arith))
  | inr e ↦ rw e refl
]

-- what stands behind `currentfile` and the white space
abbrev second : List ℕ → List ℕ → Grammar (List ℕ)
second currentfile between = fixed (codes "eexec") >>= (λ eexec. before blank_comes >> pure (currentfile ++ between ++ eexec))

-- what follows a text that begins with white space, or is none, before two blanks
blank_alike : (a r u v : List ℕ) → blank_comes u ≡ true → blank_comes v ≡ true → (before blank_comes >> pure a).read (r ++ u) ≡ None →
    (before blank_comes >> pure a).read (r ++ v) ≡ None
blank_alike a [] u v h k e = let n : ◌≡◌ {A = Option (List ℕ × List ℕ)} (Some (a, u)) None = rw h at e in absurd (none-some _ (sym n))
blank_alike a (c ∷ r) u v h k e = elim (cases_Bool (blank_comes (c ∷ r))) [
  | inl t ↦ let n : ◌≡◌ {A = Option (List ℕ × List ℕ)} (Some (a, c ∷ (r ++ u))) None = rw t at e in absurd (none-some _ (sym n))
  | inr t ↦ rw t refl
]

second_alike : (a b t u v : List ℕ) → 5 ≤ length t → blank_comes u ≡ true → blank_comes v ≡ true → (second a b).read (t ++ u) ≡ None →
    (second a b).read (t ++ v) ≡ None
second_alike a b t u v long h k e = by_strip (strip (codes "eexec") t) refl
  where
    by_strip : (o : Option (List ℕ)) → strip (codes "eexec") t ≡ o → (second a b).read (t ++ v) ≡ None
    by_strip None s = rw (fixed_strip (codes "eexec") (t ++ v), strip_inner (codes "eexec") t v long, s) refl
    by_strip (Some r) s =
        let first : (second a b).read (t ++ u) ≡ (before blank_comes >> pure (a ++ b ++ codes "eexec")).read (r ++ u) =
        rw (fixed_strip (codes "eexec") (t ++ u), strip_inner (codes "eexec") t u long, s) refl in
        rw (fixed_strip (codes "eexec") (t ++ v), strip_inner (codes "eexec") t v long, s) (blank_alike (a ++ b ++ codes "eexec") r u v h k (sym first ∙ e))

gap_front : (s u : List ℕ) → Stops is_white u →
    gap.read (s ++ u) ≡ cond (has_bytes (take (prefix_len is_white s) s)) (Some (take (prefix_len is_white s) s, drop (prefix_len is_white s) s ++ u)) None
unfolding gap
gap_front s u h = ap (option_and_then (λ x. cond (has_bytes x.0) (Some x) None)) (run_front is_white s u h)

gap_alike : (c s u v : List ℕ) → blank_comes u ≡ true → blank_comes v ≡ true → (gap >>= second c).read (s ++ (codes "eexec" ++ u)) ≡ None →
    (gap >>= second c).read (s ++ (codes "eexec" ++ v)) ≡ None
gap_alike c s u v h k e = by_test (has_bytes a) (gap_front s (codes "eexec" ++ u) refl) (gap_front s (codes "eexec" ++ v) refl)
  where
    a : List ℕ
    a = take (prefix_len is_white s) s

    rest : List ℕ
    rest = drop (prefix_len is_white s) s

    by_test : (t : Bool) → gap.read (s ++ (codes "eexec" ++ u)) ≡ cond t (Some (a, rest ++ (codes "eexec" ++ u))) None →
        gap.read (s ++ (codes "eexec" ++ v)) ≡ cond t (Some (a, rest ++ (codes "eexec" ++ v))) None → (gap >>= second c).read (s ++ (codes "eexec" ++ v)) ≡ None
    by_test false p q = ap (option_and_then (λ x. (second c x.0).read x.1)) q
    by_test true p q =
        let word : List ℕ = rest ++ codes "eexec" in
        let long : 5 ≤ length word = omega (arith, length-append rest (codes "eexec")) in
        let first : (gap >>= second c).read (s ++ (codes "eexec" ++ u)) ≡ (second c a).read (rest ++ (codes "eexec" ++ u)) =
        ap (option_and_then (λ x. (second c x.0).read x.1)) p in
        let before_u : (second c a).read (word ++ u) ≡ None = ap (second c a).read (append_assoc rest (codes "eexec") u) ∙ (sym first ∙ e) in
        ap (option_and_then (λ x. (second c x.0).read x.1)) q
        ∙ (ap (second c a).read (sym (append_assoc rest (codes "eexec") v)) ∙ second_alike c a word u v long h k before_u)

-- behind `eexec` one blank is as good as another to tell that no marker stands before it
pub eexec_alike : (y u v : List ℕ) → 11 ≤ length y → blank_comes u ≡ true → blank_comes v ≡ true → eexec_marker.read (y ++ (codes "eexec" ++ u)) ≡ None →
    eexec_marker.read (y ++ (codes "eexec" ++ v)) ≡ None
unfolding eexec_marker
eexec_alike y u v long h k e = by_strip (strip (codes "currentfile") y) refl
  where
    by_strip : (o : Option (List ℕ)) → strip (codes "currentfile") y ≡ o → eexec_marker.read (y ++ (codes "eexec" ++ v)) ≡ None
    by_strip None s = rw (fixed_strip (codes "currentfile") (y ++ (codes "eexec" ++ v)), strip_inner (codes "currentfile") y (codes "eexec" ++ v) long, s) refl
    by_strip (Some r) s =
        let first : eexec_marker.read (y ++ (codes "eexec" ++ u)) ≡ (gap >>= second (codes "currentfile")).read (r ++ (codes "eexec" ++ u)) =
        rw (fixed_strip (codes "currentfile") (y ++ (codes "eexec" ++ u)), strip_inner (codes "currentfile") y (codes "eexec" ++ u) long, s) refl in
        rw (fixed_strip (codes "currentfile") (y ++ (codes "eexec" ++ v)), strip_inner (codes "currentfile") y (codes "eexec" ++ v) long, s)
        (gap_alike (codes "currentfile") r u v h k (sym first ∙ e))
