-- Where neither ^D nor ESC stands, no job ends.
use Rattle.std.proofs.Common.{◌≡◌, ℕ, zero, suc, ◌+◌, ◌≤◌, ◌<◌, arith, Bool, true, false, List, [], ◌∷◌, ◌++◌, length, drop, get_or, Option, Some, None, is_some, refl, sym, ap, subst, ◌∙◌}
use Rattle.std.proofs.{lemmas.Bool.{true≢false, eq-eqb}, lemmas.List.{drop_more, get_or-drop}, lemmas.Slice.Eq.{bytes_eq-Decides}}
use Rattle.std.specs.{Prelude.{◌||◌, ◌==◌, codes}}
use Rattle.memchr.specs.Find.{Nowhere, Passes, is_byte2}
use Rattle.t1_grammar.specs.Grammar.{fixed}
use Rattle.t1_jobs.specs.{Kinds.{begins_with}, Words.{end_of_job, universal_exit, may_end, Scanned}}
use Rattle.t1_jobs.proofs.LenLemmas.{byte_passed}

-- the first byte of a text is that of a word that it begins with
same_head : (a : ℕ) (w : List ℕ) (b : ℕ) (bs : List ℕ) → begins_with (a ∷ w) (b ∷ bs) ≡ true → b ≡ a
same_head a w b bs h = by_read ((fixed (a ∷ w)).read (b ∷ bs)) refl h
  where
    by_read : (o : Option (List ℕ × List ℕ)) → (fixed (a ∷ w)).read (b ∷ bs) ≡ o → is_some o ≡ true → b ≡ a
    by_read None e k = absurd (true≢false (sym k))
    by_read (Some x) e k =
        let s = (fixed (a ∷ w)).takes (b ∷ bs) x e in
        let text : s.0 ≡ a ∷ w = s.2.0.0 ∙ sym ((bytes_eq-Decides (a ∷ w) x.0).0 s.2.1) in
        ap (λ (t : List ℕ). get_or t 0 0) (s.1 ∙ ap (λ (t : List ℕ). t ++ x.1) text)

none_of : (p q : Bool) → (p ≡ true → ⊥) → (q ≡ true → ⊥) → (p || q) ≡ false
none_of true q f g = absurd (f refl)
none_of false true f g = absurd (g refl)
none_of false false f g = refl

some_left : (p q : Bool) → p ≡ true → (p || q) ≡ true
some_left true q e = refl
some_left false q e = absurd (true≢false (sym e))

some_right : (p q : Bool) → q ≡ true → (p || q) ≡ true
some_right true q e = refl
some_right false q e = e

-- another first byte ends no job
other_byte : (b : ℕ) (bs : List ℕ) → (is_byte2 4 27 b ≡ true → ⊥) → may_end (b ∷ bs) ≡ false
other_byte b bs none =
    none_of (begins_with end_of_job (b ∷ bs)) (begins_with universal_exit (b ∷ bs))
    (λ h. none (some_left (b == 4) (b == 27) (eq-eqb b 4 (same_head 4 [] b bs h))))
    (λ h. none (some_right (b == 4) (b == 27) (eq-eqb b 27 (same_head 27 (codes "%-12345X") b bs h))))

-- at a place within a text, too
other_place : (text : List ℕ) (at : ℕ) → at < length text → (is_byte2 4 27 (get_or text at 0) ≡ true → ⊥) → may_end (drop at text) ≡ false
other_place text at lt none = ap may_end (drop_more text at 0 lt) ∙ other_byte (get_or text at 0) (drop (at + 1) text) none

-- so many places are passed at which neither byte stands
pub places_passed : (text : List ℕ) (from n : ℕ) → from + n ≤ length text →
    ((i : ℕ) → i < n → is_byte2 4 27 (get_or text (from + i) 0) ≡ true → ⊥) → Scanned text from → Scanned text (from + n)
places_passed text from zero le none s = subst (Scanned text) (omega arith) s
places_passed text from (suc n) le none s =
    let before : Scanned text (from + n) = places_passed text from n (omega (arith, le)) (λ i lt. none i (omega (arith, lt))) s in
    let lt : from + n < length text = omega (arith, le) in
    subst (Scanned text) (omega arith) (byte_passed text (from + n) lt (other_place text (from + n) lt (none n (omega arith))) before)

-- where a search of what stands from a place on finds neither byte in the first n
pub none_before : (text rest : List ℕ) (from n : ℕ) → rest ≡ drop from text → Nowhere (Passes (is_byte2 4 27) rest) 0 n →
    (i : ℕ) → i < n → is_byte2 4 27 (get_or text (from + i) 0) ≡ true → ⊥
none_before text rest from n e none i lt h =
    none i (omega arith) lt (ap (is_byte2 4 27) (ap (λ (t : List ℕ). get_or t i 0) e ∙ get_or-drop from text i 0) ∙ h)
