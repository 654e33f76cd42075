-- The longest prefix along which a machine goes on.
use Rattle.std.proofs.{Common.{refl, sym, ap, subst, arith}, lemmas.List.{take_at, drop_at, take-append-drop}, lemmas.Option.{same_Some}}
use Rattle.std.specs.Prelude.{◌≡◌, ◌≤◌, ℕ, suc, List, [], ◌∷◌, ◌++◌, length, take, drop, Option, Some, None}
use Rattle.t1_grammar.specs.Grammar.{Grammar, Front}

module _ {S : Type 0} (step : S → ℕ → Option S) where
  -- from this state on each byte of the text makes a step, and no step follows
  abbrev pub GoesOn : S → List ℕ → List ℕ → Type 0
  GoesOn s [] [] = Unit {0}
  GoesOn s [] (b ∷ rest) = step s b ≡ None
  GoesOn s (b ∷ text) rest = (t : S) × (step s b ≡ Some t) × GoesOn t text rest

  -- no byte more, or one more and what is taken from the next state on
  abbrev pub one_more : (S → ℕ) → Option S → ℕ
  one_more others None = 0
  one_more others (Some t) = suc (others t)

  -- how many bytes make a step, from a state on
  abbrev pub taken : S → List ℕ → ℕ
  taken s [] = 0
  taken s (b ∷ bs) = one_more (λ t. taken t bs) (step s b)

  -- these are not more than there are
  pub taken_within : (s : S) (bytes : List ℕ) → taken s bytes ≤ length bytes
  taken_within s [] = omega arith
  taken_within s (b ∷ bs) = by_step (λ t. taken_within t bs) (step s b)
    where
      by_step : ((t : S) → taken t bs ≤ length bs) → (o : Option S) → one_more (λ t. taken t bs) o ≤ suc (length bs)
      by_step others None = omega arith
      by_step others (Some t) = omega (arith, others t)

  -- so many bytes do, and no step follows
  taken_goes : (s : S) (bytes : List ℕ) → GoesOn s (take (taken s bytes) bytes) (drop (taken s bytes) bytes)
  taken_goes s [] = tt
  taken_goes s (b ∷ bs) = by_step (λ t. taken_goes t bs) (step s b) refl
    where
      by_step : ((t : S) → GoesOn t (take (taken t bs) bs) (drop (taken t bs) bs)) → (o : Option S) → step s b ≡ o →
          GoesOn s (take (one_more (λ t. taken t bs) o) (b ∷ bs)) (drop (one_more (λ t. taken t bs) o) (b ∷ bs))
      by_step others None e = e
      by_step others (Some t) e = (t, e, others t)

  -- a text that makes steps up to where none follows is taken
  takes_text : (s : S) (text rest : List ℕ) → GoesOn s text rest → taken s (text ++ rest) ≡ length text
  takes_text s [] [] g = refl
  takes_text s [] (b ∷ rest) g = rw g refl
  takes_text s (b ∷ text) rest g = rw g.1 (ap suc (takes_text g.0 text rest g.2))

  module _ (start : S) where
    -- the value's own bytes, each of which makes a step, before one that doesn't or the end
    abbrev pub SpellsScan : List ℕ → List ℕ → List ℕ → Type 0
    SpellsScan a text rest = (text ≡ a) × GoesOn start a rest

    -- the longest prefix whose bytes make steps
    abbrev pub read_scan : List ℕ → Option (List ℕ × List ℕ)
    read_scan bytes = Some (take (taken start bytes) bytes, drop (taken start bytes) bytes)

    pub scan_takes : (bytes : List ℕ) (x : List ℕ × List ℕ) → read_scan bytes ≡ Some x → Front SpellsScan bytes x
    scan_takes bytes x e =
        let n = taken start bytes in
        subst (Front SpellsScan bytes) (same_Some (take n bytes, drop n bytes) x e)
        (take n bytes, sym (take-append-drop n bytes), (refl, taken_goes start bytes))

    pub scan_again : (a text rest : List ℕ) → SpellsScan a text rest → read_scan (text ++ rest) ≡ Some (a, rest)
    scan_again a text rest s =
        let n = takes_text start a rest s.1 in
        rw (s.0, n, take_at a rest (length a) refl, drop_at a rest (length a) refl) refl

-- as many bytes as make steps of a machine that starts in this state
abbrev pub scan : {S : Type 0} → (S → ℕ → Option S) → S → Grammar (List ℕ)
scan step start = record { Spells = SpellsScan step start; read = read_scan step start; takes = scan_takes step start; again = scan_again step start }
