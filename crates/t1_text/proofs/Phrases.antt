-- A whole phrase is read before whatever ends a word.
use Rattle.std.proofs.{Common.{◌≡◌, ℕ, Bool, true, false, ◌||◌, List, [], ◌∷◌, ◌++◌, Some, refl, sym, ap, subst, ◌∙◌}, lemmas.List.{append-nil}, lemmas.Bool.{or_parts, not-true}}
use Rattle.std.specs.List.{AllByRecursion}
use Rattle.t1_grammar.{specs.Grammar.{Stops}, proofs.Grammars.{bind_read}}
use Rattle.t1_bytes.specs.White.{is_white, white, gap}
use Rattle.t1_text.specs.{declared.dialect.Spacing.TheVariants.{White}, Words.{is_regular, word, is_word, phrase_of, phrase_after, is_access, passes, is_delimiter}, Subrs.{subrs_end}}
use Rattle.t1_text.specs.FontWords.{IsPhrase}
use Rattle.t1_text.proofs.Written.{white_one}

stops_more : (p : ℕ → Bool) (back rest : List ℕ) → Stops p (back ++ []) → Stops p rest → Stops p (back ++ rest)
stops_more p [] rest h k = k
stops_more p (b ∷ back) rest h k = h

-- a word stands behind white space
stops_word : (w back rest : List ℕ) → is_word w ≡ true → Stops is_white ((w ++ back) ++ []) → Stops is_white ((w ++ back) ++ rest)
stops_word [] back rest h k = absurd (cc)
stops_word (b ∷ w) back rest h k = k

-- the end of a phrase is spelled before whatever ends a word
after_spelled : (test : List ℕ → Bool) (access : Bool) (first p text rest : List ℕ) →
    (phrase_after test access first).Spells p text [] → Stops is_regular rest → (phrase_after test access first).Spells p text rest
unfolding gap word
after_spelled test false first p text rest s k = s
after_spelled test true first p text rest s k =
    let gap_part = s.0.4 in
    let w = s.0.5 in
    let parts : s.0.2 ≡ w.0 ++ w.2 = w.3 ∙ ap (λ (u : List ℕ). u ++ w.2) w.4.0.0.0 in
    let stops : Stops is_white (s.0.2 ++ rest) = subst (λ (u : List ℕ). Stops is_white (u ++ rest)) (sym parts)
    (stops_word w.0 w.2 rest w.4.0.1 (subst (λ (u : List ℕ). Stops is_white (u ++ [])) parts gap_part.0.2)) in (
      (
        s.0.0,
        s.0.1,
        s.0.2,
        s.0.3,
        ((gap_part.0.0, gap_part.0.1, stops), gap_part.1),
        (w.0, w.1, w.2, w.3, (((w.4.0.0.0, w.4.0.0.1, stops_more is_regular w.2 rest w.4.0.0.2 k), w.4.0.1), w.4.1), w.5),
      ),
      s.1,
    )

spelled_behind : (test : List ℕ → Bool) (p text rest : List ℕ) → (phrase_of test).Spells p text [] → Stops is_regular rest → (phrase_of test).Spells p text rest
unfolding phrase_of word
spelled_behind test p text rest s k = (
  s.0,
  s.1,
  s.2,
  s.3,
  (((s.4.0.0.0, s.4.0.0.1, stops_more is_regular s.2 rest s.4.0.0.2 k), s.4.0.1), s.4.1),
  after_spelled test (is_access s.0) s.0 p s.2 rest s.5 k,
)

-- a phrase is read from its text
pub phrase_behind : (b : Bool) (p rest : List ℕ) → IsPhrase b p → Stops is_regular rest → (phrase_of (passes b)).read (p ++ rest) ≡ Some (p, rest)
phrase_behind b p rest h k =
    let s = (phrase_of (passes b)).takes p (p, []) h.whole in
    let text : p ≡ s.0 = s.1 ∙ append-nil s.0 in
    (phrase_of (passes b)).again p p rest (spelled_behind (passes b) p p rest (subst (λ (t : List ℕ). (phrase_of (passes b)).Spells p t []) (sym text) s.2) k)

regular_black : (b : ℕ) → is_regular b ≡ true → is_white b ≡ false
regular_black b h = (or_parts (is_white b) (is_delimiter b) (not-true (is_white b || is_delimiter b) h)).0

word_starts : (w back rest : List ℕ) → AllByRecursion (λ b. is_regular b ≡ true) w → is_word w ≡ true → Stops is_white ((w ++ back) ++ rest)
word_starts [] back rest a h = absurd cc
word_starts (b ∷ w) back rest a h = regular_black b a.0

spelled_starts : (test : List ℕ → Bool) (p text after : List ℕ) → (phrase_of test).Spells p text after → (rest : List ℕ) → Stops is_white (text ++ rest)
unfolding phrase_of word
spelled_starts test p text after s rest =
    let parts : text ≡ s.0 ++ s.2 = s.3 ∙ ap (λ (u : List ℕ). u ++ s.2) s.4.0.0.0 in
    subst (λ (u : List ℕ). Stops is_white (u ++ rest)) (sym parts) (word_starts s.0 s.2 rest s.4.0.0.1 s.4.0.1)

-- a phrase begins with no white space
pub phrase_starts : (b : Bool) (p : List ℕ) → IsPhrase b p → (rest : List ℕ) → Stops is_white (p ++ rest)
phrase_starts b p h rest =
    let s = (phrase_of (passes b)).takes p (p, []) h.whole in
    subst (λ (u : List ℕ). Stops is_white (u ++ rest)) (sym (s.1 ∙ append-nil s.0)) (spelled_starts (passes b) p s.0 [] s.2 rest)

-- what closes the table of subroutines is read so
pub closing_read : (p : List ℕ) → IsPhrase false p → (after : List ℕ) → Stops is_regular after → (subrs_end White).read (10 ∷ (p ++ after)) ≡ Some (p, after)
unfolding subrs_end
closing_read p h after s =
    bind_read white (λ _. phrase_of (passes false)) (10 ∷ (p ++ after)) (10 ∷ []) (p ++ after) (Some (p, after))
    (white_one 10 (p ++ after) refl (phrase_starts false p h after)) (phrase_behind false p after h s)
