-- Places in a text, told from its end.
use Rattle.std.proofs.{Common.{◌≡◌, refl, sym, ap, ◌∙◌, ℕ, ◌+◌, ◌-◌, ◌≤◌, arith, List, [], ◌++◌, Some, length, take, drop}, lemmas.List.{append_assoc, length-append, drop_at, take_at}}
use Rattle.t1_grammar.specs.Grammar.{Grammar, count}
use Rattle.t1_text.specs.{declared.dialect.Spacing.{Spacing}, declared.places.Place.{Place}, Words.{name, next_name}, Places.{ending, bytes_at_place, StandsIn}}

-- in a text with more before it
pub behind : (front text whole part : List ℕ) (n : ℕ) → whole ≡ front ++ text → StandsIn text part n → StandsIn whole part n
behind front text whole part n is s = record {
  before = front ++ s.before;
  after = s.after;
  whole = is ∙ (ap (λ t. front ++ t) s.whole ∙ sym (append_assoc front s.before (part ++ s.after)));
  size = s.size;
}

-- behind what is read
pub behind_read : {A : Type 0} (g : Grammar A) → (bytes : List ℕ) (x : A × List ℕ) → g.read bytes ≡ Some x → (part : List ℕ) (n : ℕ) →
    StandsIn x.1 part n → StandsIn bytes part n
behind_read g bytes x e part n s = let h = g.takes bytes x e in behind h.0 x.1 bytes part n h.1 s

-- what stands behind a value that was read is the end of the text
pub ending_read : {A : Type 0} (g : Grammar A) → (bytes : List ℕ) (x : A × List ℕ) → g.read bytes ≡ Some x → ending (length x.1) bytes ≡ x.1
ending_read g bytes x e =
    let h = g.takes bytes x e in
    ap (drop (length bytes - length x.1)) h.1 ∙ drop_at h.0 x.1 (length bytes - length x.1) (omega (arith, ap length h.1, length-append h.0 x.1))

-- what is left is no longer
pub no_longer : {A : Type 0} (g : Grammar A) → (bytes : List ℕ) (x : A × List ℕ) → g.read bytes ≡ Some x → length x.1 ≤ length bytes
no_longer g bytes x e = let h = g.takes bytes x e in omega (arith, ap length h.1, length-append h.0 x.1)

-- a name stands right before what is left
pub name_stands : (d : Spacing) (bytes : List ℕ) (x : List ℕ × List ℕ) → (next_name d).read bytes ≡ Some x → StandsIn bytes x.0 (length x.1)
unfolding next_name name
name_stands d bytes x e =
    let h = (next_name d).takes bytes x e in
    let k = h.2 in
    let n = k.5 in
    behind k.1 (k.2 ++ x.1) bytes x.0 (length x.1) (h.1 ∙ (ap (λ t. t ++ x.1) k.3 ∙ append_assoc k.1 k.2 x.1))
    (record { before = n.1; after = x.1; whole = ap (λ t. t ++ x.1) (n.3 ∙ ap (λ t. n.1 ++ t) n.5.0.0) ∙ append_assoc n.1 x.0 x.1; size = refl })

-- counted bytes
pub counted : (n : ℕ) (bytes : List ℕ) (x : List ℕ × List ℕ) → (count n).read bytes ≡ Some x → StandsIn bytes x.0 (length x.1)
counted n bytes x e =
    let h = (count n).takes bytes x e in
    record { before = []; after = x.1; whole = h.1 ∙ ap (λ t. t ++ x.1) h.2.0; size = refl }

module _ (text part : List ℕ) (n : ℕ) (s : StandsIn text part n) where
  sizes : length text ≡ length s.before + (length part + n)
  sizes = omega (arith, ap length s.whole, length-append s.before (part ++ s.after), length-append part s.after, s.size)

  -- the bytes at the place of a part are the part
  pub placed_is : (p : Place) → p.len ≡ length part → p.behind ≡ n → bytes_at_place text p ≡ part
  placed_is p len at =
      let skip : length text - (p.len + p.behind) ≡ length s.before = omega (arith, sizes, len, at) in
      (λ i. take (len i) (drop (skip i) (s.whole i)))
      ∙ (ap (take (length part)) (drop_at s.before (part ++ s.after) (length s.before) refl) ∙ take_at part s.after (length part) refl)
