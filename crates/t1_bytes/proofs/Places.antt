-- The first place where a grammar can be read, by a search for the text that it begins with.
use Rattle.std.proofs.Common.{◌≡◌, ℕ, ◌+◌, ◌≤◌, inl, inr, List, ◌++◌, length, take, drop, get_or, Option, Some, None, refl, sym, ap, subst, ◌∙◌, arith, ◌-◌, add_assoc}
use Rattle.std.proofs.{lemmas.List.{length-append, length-drop, get_or-drop, get_or_append_left}, lemmas.Slice.Eq.{bytes_eq-Decides}, lemmas.Bool.{cases_lt}}
use Rattle.bstr.specs.Find.{OccursAt, Nowhere}
use Rattle.t1_grammar.specs.{Grammar.{Grammar, fixed, first_at, Begins}, Places.{NoneBelow, first_found, first_nowhere, one_more}}

-- where a text stands, its bytes occur
fixed_occurs : (w bytes : List ℕ) (k : ℕ) (x : List ℕ × List ℕ) → (fixed w).read (drop k bytes) ≡ Some x → k ≤ length bytes → OccursAt bytes w k
fixed_occurs w bytes k x e le =
    let s = (fixed w).takes (drop k bytes) x e in
    let same : w ≡ x.0 = (bytes_eq-Decides w x.0).0 s.2.1 in
    let whole : drop k bytes ≡ w ++ x.1 = s.1 ∙ ap (λ (u : List ℕ). u ++ x.1) (s.2.0.0 ∙ sym same) in
    record {
      fits = omega (arith, ap length whole, length-append w x.1, length-drop k bytes);
      reads = λ j h. sym (get_or-drop k bytes j 0) ∙ (ap (λ (u : List ℕ). get_or u j 0) whole ∙ get_or_append_left w x.1 0 j h);
    }

no_text : (w bytes : List ℕ) (k : ℕ) → k ≤ length bytes → (OccursAt bytes w k → ⊥) →
    (o : Option (List ℕ × List ℕ)) → (fixed w).read (drop k bytes) ≡ o → o ≡ None
no_text w bytes k le absent None e = refl
no_text w bytes k le absent (Some x) e = absurd (absent (fixed_occurs w bytes k x e le))

-- an occurrence in the rest of the bytes is one in the bytes
pub occurs_sooner : (bytes w : List ℕ) (from k : ℕ) → from ≤ length bytes → OccursAt (drop from bytes) w k → OccursAt bytes w (from + k)
occurs_sooner bytes w from k le o = record {
  fits = omega (arith, o.fits, length-drop from bytes);
  reads = λ j h. ap (λ (i : ℕ). get_or bytes i 0) (add_assoc from k j) ∙ (sym (get_or-drop from bytes (k + j) 0) ∙ o.reads j h);
}

-- and back
pub occurs_later : (bytes w : List ℕ) (from k : ℕ) → from ≤ length bytes → OccursAt bytes w (from + k) → OccursAt (drop from bytes) w k
occurs_later bytes w from k le o = record {
  fits = omega (arith, o.fits, length-drop from bytes);
  reads = λ j h. get_or-drop from bytes (k + j) 0 ∙ (ap (λ (i : ℕ). get_or bytes i 0) (sym (add_assoc from k j)) ∙ o.reads j h);
}

-- a word that stands nowhere in the rest of a text stands nowhere in that part of the text
pub nowhere_later : (bytes w : List ℕ) (from n m : ℕ) → from ≤ length bytes → m ≤ from + n → Nowhere (OccursAt (drop from bytes) w) 0 n →
    Nowhere (OccursAt bytes w) from m
nowhere_later bytes w from n m le top none k low high o =
    let e : k ≡ from + (k - from) = omega arith in
    none (k - from) (omega arith) (omega arith) (occurs_later bytes w from (k - from) le (subst (λ (i : ℕ). OccursAt bytes w i) e o))

-- no place is read from `from` up to `to`, where the first text occurs nowhere there
pub more_none : {A : Type 0} (w : List ℕ) (g : Grammar A) → Begins w g → (bytes : List ℕ) (from to : ℕ) →
    to ≤ length bytes + 1 → NoneBelow g bytes from → Nowhere (OccursAt bytes w) from to → NoneBelow g bytes to
more_none w g begins bytes from to le none absent k h = elim (cases_lt k from) [
  | inl lt ↦ none k lt
  | inr ge ↦ begins (drop k bytes) (no_text w bytes k (omega arith) (absent k ge h) _ refl)
]

-- ---- a search for w, which g begins with

-- a grammar that is read where its first word is met first is found there
pub found_at : {A : Type 0} (w : List ℕ) (g : Grammar A) → Begins w g → (bytes : List ℕ) (from place : ℕ) (a : A) (rest : List ℕ) →
    place ≤ length bytes → NoneBelow g bytes from → Nowhere (OccursAt bytes w) from place → g.read (drop place bytes) ≡ Some (a, rest)
    → Some ((take place bytes, a), rest) ≡ first_at g bytes
found_at w g begins bytes from place a rest le none absent e =
    sym (first_found g bytes place a rest le (more_none w g begins bytes from place (omega arith) none absent) e)

-- where the word is met and the grammar can't be read, the search goes on behind it
pub passed_at : {A : Type 0} (w : List ℕ) (g : Grammar A) → Begins w g → (bytes : List ℕ) (from place : ℕ) → place ≤ length bytes →
    NoneBelow g bytes from → Nowhere (OccursAt bytes w) from place → g.read (drop place bytes) ≡ None → NoneBelow g bytes (place + 1)
passed_at w g begins bytes from place le none absent e = one_more g bytes place (more_none w g begins bytes from place (omega arith) none absent) e

-- where the word is met no more, the grammar is found nowhere
pub nowhere_at : {A : Type 0} (w : List ℕ) (g : Grammar A) → Begins w g → (bytes : List ℕ) (from : ℕ) →
    NoneBelow g bytes from → Nowhere (OccursAt bytes w) from (length bytes + 1) → None ≡ first_at g bytes
nowhere_at w g begins bytes from none absent = sym (first_nowhere g bytes (more_none w g begins bytes from (length bytes + 1) (omega arith) none absent))
