-- Words of a printer have bytes, and what stands behind them ends the text.
use Rattle.std.proofs.Common.{◌≡◌, ℕ, zero, suc, ◌≤◌, ◌<◌, arith, true, List, [], ◌∷◌, ◌++◌, length, Option, Some, None, is_some, refl, sym, ap, ◌∙◌, append_assoc}
use Rattle.std.proofs.{lemmas.List.{length-append}, lemmas.Option.{none-some, same_Some}, lemmas.Bool.{true≢false}}
use Rattle.std.specs.{Prelude.{◌||◌}, Option.{option_map}}
use Rattle.t1_grammar.specs.{Grammar.{fixed, either, choice}, TableLaws.{Eats, Eats-spelled, eats_either}}
use Rattle.t1_jobs.specs.{Words.{end_of_job, universal_exit, pjl_line, line_end, word, past_word, behind_some, behind_words, may_end}}

-- ---- words have bytes

-- a fixed text that has bytes takes some
fixed_eats : (w : List ℕ) → 0 < length w → Eats (fixed w)
fixed_eats w some = Eats-spelled (fixed w) (λ a text rest s. omega (arith, ap length s.0.0, s.0.1, some))

pjl_eats : Eats pjl_line
unfolding pjl_line
pjl_eats = Eats-spelled pjl_line (λ a text rest s. omega (arith, ap length s.3, length-append s.1 s.2, ap length s.4.0.0, s.4.0.1))

pub word_eats : Eats word
unfolding word
word_eats =
    eats_either (either (fixed end_of_job) (fixed universal_exit)) (either pjl_line line_end)
    (eats_either (fixed end_of_job) (fixed universal_exit) (fixed_eats end_of_job (omega arith)) (fixed_eats universal_exit (omega arith)))
    (eats_either pjl_line line_end pjl_eats
    (eats_either (fixed (13 ∷ [])) (fixed (10 ∷ [])) (fixed_eats (13 ∷ []) (omega arith)) (fixed_eats (10 ∷ []) (omega arith))))

some_word : {A : Type 0} (a b c : Option A) → (is_some a || is_some b) ≡ true → (x : A) × (choice (choice a b) c ≡ Some x)
some_word (Some x) b c e = (x, refl)
some_word None (Some x) c e = (x, refl)
some_word None None c e = absurd (true≢false (sym e))

-- where a job may end, a word comes
pub word_comes : (text : List ℕ) → may_end text ≡ true → (x : List ℕ × List ℕ) × (word.read text ≡ Some x)
unfolding word
word_comes text e = some_word ((fixed end_of_job).read text) ((fixed universal_exit).read text) ((either pjl_line line_end).read text) e

-- ---- behind words

not_longer : (n : ℕ) (text : List ℕ) → ((t : List ℕ) → length (behind_some n t) ≤ length t) → (o : Option (List ℕ × List ℕ)) → word.read text ≡ o →
    length (past_word (behind_some n) text o) ≤ length text
not_longer n text h None e = omega arith
not_longer n text h (Some x) e = omega (arith, h x.1, word_eats text x e)

-- what stands behind words is not longer than the text
pub behind_within : (n : ℕ) (text : List ℕ) → length (behind_some n text) ≤ length text
unfolding behind_some
behind_within zero text = omega arith
behind_within (suc n) text = not_longer n text (behind_within n) (word.read text) refl

-- a text is something, and then this end
abbrev pub EndsWith : List ℕ → List ℕ → Type 0
EndsWith text end = (u : List ℕ) × (text ≡ u ++ end)

ends_past : (n : ℕ) (text : List ℕ) → ((t : List ℕ) → EndsWith t (behind_some n t)) → (o : Option (List ℕ × List ℕ)) → word.read text ≡ o →
    EndsWith text (past_word (behind_some n) text o)
ends_past n text h None e = ([], refl)
ends_past n text h (Some x) e =
    let s = word.takes text x e in
    let r = h x.1 in
    (s.0 ++ r.0, s.1 ∙ (ap (λ (v : List ℕ). s.0 ++ v) r.1 ∙ sym (append_assoc s.0 r.0 (behind_some n x.1))))

-- what stands behind words is the end of the text
pub ends_behind : (n : ℕ) (text : List ℕ) → EndsWith text (behind_some n text)
unfolding behind_some
ends_behind zero text = ([], refl)
ends_behind (suc n) text = ends_past n text (ends_behind n) (word.read text) refl

-- where no word comes, all of the text stays
pub no_word : (n : ℕ) (text : List ℕ) → word.read text ≡ None → behind_some n text ≡ text
unfolding behind_some
no_word zero text e = refl
no_word (suc n) text e = ap (past_word (behind_some n) text) e

-- a word is left out
pub past_one : (n : ℕ) (text : List ℕ) (x : List ℕ × List ℕ) → word.read text ≡ Some x → behind_some (suc n) text ≡ behind_some n x.1
unfolding behind_some
past_one n text x e = ap (past_word (behind_some n) text) e

-- where a job may end, what stands behind its words is shorter than the text
pub behind_shorter : (text : List ℕ) → may_end text ≡ true → length (behind_words text) < length text
behind_shorter text e = let x = word_comes text e in by_length (length text) refl x.0 x.1
  where
    by_length : (n : ℕ) → length text ≡ n → (x : List ℕ × List ℕ) → word.read text ≡ Some x → length (behind_some n text) < length text
    by_length zero k x r = absurd (omega (arith, k, word_eats text x r))
    by_length (suc n) k x r = omega (arith, ap length (past_one n text x r), behind_within n x.1, word_eats text x r)

-- ---- a walk over words

-- what is left of a text where some words were passed
abbrev pub Walked : List ℕ → List ℕ → Type 0
Walked text rest = (n : ℕ) × (length rest ≤ n) × (behind_some n rest ≡ behind_words text)

from_map : (o : Option (List ℕ × List ℕ)) → None ≡ option_map (λ x. x.1) o → o ≡ None
from_map None e = refl
from_map (Some x) e = absurd (none-some x.1 e)

to_map : (o : Option (List ℕ × List ℕ)) (r : List ℕ) → Some r ≡ option_map (λ x. x.1) o → (x : List ℕ × List ℕ) × (o ≡ Some x) × (x.1 ≡ r)
to_map None r e = absurd (none-some r (sym e))
to_map (Some x) r e = (x, refl, same_Some x.1 r (sym e))

-- one word more is passed
pub walked_on : (text rest next : List ℕ) → Walked text rest → Some next ≡ option_map (λ x. x.1) (word.read rest) →
    Walked text next × (length next < length rest)
walked_on text rest next w e =
    let x = to_map (word.read rest) next e in
    let less : length next < length rest = omega (arith, word_eats rest x.0 x.1, ap length x.2) in
    (by_fuel w.0 w.1 w.2 x.0 x.1 x.2 less, less)
  where
    by_fuel : (n : ℕ) → length rest ≤ n → behind_some n rest ≡ behind_words text → (x : List ℕ × List ℕ) →
        word.read rest ≡ Some x → x.1 ≡ next → length next < length rest → Walked text next
    by_fuel zero le h x e is less = absurd (omega (arith, le, less))
    by_fuel (suc n) le h x e is less = (n, omega (arith, le, less), ap (behind_some n) (sym is) ∙ (sym (past_one n rest x e) ∙ h))

-- where no word comes, the text has lost all its words
pub walked_through : (text rest : List ℕ) → Walked text rest → None ≡ option_map (λ x. x.1) (word.read rest) → rest ≡ behind_words text
walked_through text rest w e = sym (no_word w.0 rest (from_map (word.read rest) e)) ∙ w.2
