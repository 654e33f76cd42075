-- A head without its test is what stands around the test.
use Rattle.std.proofs.Common.{◌≡◌, ◌⊎◌, ℕ, Bool, true, false, cond, List, [], ◌∷◌, ◌++◌, length, drop, Option, Some, None, inl, inr, refl, sym, ap, subst, ◌∙◌, append_assoc, arith}
use Rattle.std.proofs.lemmas.List.{append-nil}
use Rattle.t1_grammar.specs.Grammar.{first}
use Rattle.t1_text.specs.{FontTest.{font_test, apart_test, found_test, around, is_untested, tested_head}, Renewing.{TestGoes}}

-- a test stands in a head, and without it the head is this
abbrev Without : List ℕ → List ℕ → Type 0
Without head bare = (front test behind rest : List ℕ) × font_test.Spells tt test rest × (head ≡ front ++ (test ++ behind)) × (bare ≡ front ++ behind)

-- a break and a test behind it
apart_is : (v own rest : List ℕ) → apart_test.Spells v own rest →
    (test : List ℕ) × font_test.Spells tt test rest × (own ≡ v ++ test) × (length v ≡ 1)
unfolding apart_test
apart_is v own rest a =
    let b = a.5 in
    let same : a.0 ≡ v = b.5.1 in
    let whole : a.2 ≡ b.1 = b.3 ∙ (ap (λ (u : List ℕ). b.1 ++ u) b.5.0 ∙ append-nil b.1) in (
      b.1,
      subst (λ (u : List ℕ). font_test.Spells tt b.1 (u ++ rest)) b.5.0 b.4,
      a.3 ∙ ((λ i. (a.4.0.0 ∙ same) i ++ whole i)),
      ap length (sym same) ∙ a.4.0.1,
    )

by_front : (head front v test behind rest : List ℕ) → 10 ∷ head ≡ (front ++ (v ++ test)) ++ behind → length v ≡ 1 → font_test.Spells tt test rest →
    Without head (drop 1 (front ++ (v ++ behind)))
by_front head [] [] test behind rest whole one s = absurd (omega (arith, one))
by_front head [] (c ∷ d ∷ v) test behind rest whole one s = absurd (omega (arith, one))
by_front head [] (c ∷ []) test behind rest whole one s = ([], test, behind, rest, s, ap (drop 1) whole, refl)
by_front head (d ∷ front) v test behind rest whole one s = (
  front ++ v,
  test,
  behind,
  rest,
  s,
  ap (drop 1) whole ∙ four front v test behind,
  sym (append_assoc front v behind),
)
  where
    four : (a b c e : List ℕ) → (a ++ (b ++ c)) ++ e ≡ (a ++ b) ++ (c ++ e)
    four a b c e = simp append_assoc

pub test_goes : TestGoes
test_goes head = by_found (found_test head) refl
  where
    by_fit : (x : (List ℕ × List ℕ) × List ℕ) (t : Bool) → Without head (around x) →
        (cond t (around x) head ≡ head) ⊎ Without head (cond t (around x) head)
    by_fit x true w = inr w
    by_fit x false w = inl refl

    by_found : (o : Option ((List ℕ × List ℕ) × List ℕ)) → found_test head ≡ o → (tested_head head o ≡ head) ⊎ Without head (tested_head head o)
    by_found None e = inl refl
    by_found (Some x) e =
        let s = (first apart_test).takes (10 ∷ head) x e in
        let t = apart_is x.0.1 s.2.0 x.1 s.2.2 in
        let whole : 10 ∷ head ≡ (x.0.0 ++ (x.0.1 ++ t.0)) ++ x.1 =
        s.1 ∙ ap (λ (u : List ℕ). u ++ x.1) (s.2.1 ∙ ap (λ (u : List ℕ). x.0.0 ++ u) t.2) in
        by_fit x (is_untested (around x)) (by_front head x.0.0 x.0.1 t.0 x.1 x.1 whole t.3 t.1)
