-- The first place where a grammar can be read, from places where it can't.
use Rattle.std.proofs.Common.{inl, inr, Bool, true, false, true≢false, is_some, sym, ◌≡◌, ℕ, zero, suc, ◌+◌, ◌≤◌, ◌<◌, List, [], ◌∷◌, ◌++◌, length, take, drop, Option, Some, None, refl, ap, ◌∙◌}
use Rattle.std.proofs.{Common.{append_assoc, arith, below_more}, lemmas.Bool.{cases_Bool}, lemmas.List.{append-nil, drop_at}}
use Rattle.std.specs.Option.{option_and_then}
use Rattle.t1_grammar.specs.Grammar.{Grammar, choice, first_at, first, Has, Lacks, first_here, and_then_none, unspelled, unread}

-- a place found behind these bytes
abbrev pub prepend : {A : Type 0} → List ℕ → Option ((List ℕ × A) × List ℕ) → Option ((List ℕ × A) × List ℕ)
prepend front None = None
prepend front (Some x) = Some ((front ++ x.0.0, x.0.1), x.1)

-- g can be read at no place below n
abbrev pub NoneBelow : {A : Type 0} → Grammar A → List ℕ → ℕ → Type 0
NoneBelow g bytes n = (k : ℕ) → k < n → g.read (drop k bytes) ≡ None

same_front : {A : Type 0} (b : ℕ) (o : Option ((List ℕ × A) × List ℕ)) → option_and_then (λ x. Some ((b ∷ x.0.0, x.0.1), x.1)) o ≡ prepend (b ∷ []) o
same_front b None = refl
same_front b (Some x) = refl

one_place : {A : Type 0} (g : Grammar A) (b : ℕ) (bs : List ℕ) → g.read (b ∷ bs) ≡ None → first_at g (b ∷ bs) ≡ prepend (b ∷ []) (first_at g bs)
unfolding first_at
one_place g b bs e = rw e (same_front b (first_at g bs))

prepend-prepend : {A : Type 0} (b : ℕ) (front : List ℕ) (o : Option ((List ℕ × A) × List ℕ)) → prepend (b ∷ []) (prepend front o) ≡ prepend (b ∷ front) o
prepend-prepend b front None = refl
prepend-prepend b front (Some x) = refl

prepend-nil : {A : Type 0} (o : Option ((List ℕ × A) × List ℕ)) → o ≡ prepend [] o
prepend-nil None = refl
prepend-nil (Some x) = refl

-- where a grammar can be read nowhere in the first n bytes, it is sought after them
pub first_after : {A : Type 0} (g : Grammar A) (bytes : List ℕ) (n : ℕ) → n ≤ length bytes → NoneBelow g bytes n →
    first_at g bytes ≡ prepend (take n bytes) (first_at g (drop n bytes))
first_after g bytes zero le none = prepend-nil (first_at g bytes)
first_after g [] (suc n) le none = absurd (omega arith)
first_after g (b ∷ bs) (suc n) le none =
    one_place g b bs (none 0 (omega arith))
    ∙ (ap (prepend (b ∷ [])) (first_after g bs n (omega arith) (λ k h. none (suc k) (omega arith))) ∙ prepend-prepend b (take n bs) (first_at g (drop n bs)))

both_none : {A : Type 0} (o p : Option A) → choice o p ≡ None → (o ≡ None) × (p ≡ None)
both_none None p e = (refl, e)
both_none (Some x) p e = absurd cc

-- it is read at the place n, and at none before
pub first_found : {A : Type 0} (g : Grammar A) (bytes : List ℕ) (n : ℕ) (a : A) (rest : List ℕ) → n ≤ length bytes → NoneBelow g bytes n →
    g.read (drop n bytes) ≡ Some (a, rest) → first_at g bytes ≡ Some ((take n bytes, a), rest)
first_found g bytes n a rest le none e =
    first_after g bytes n le none
    ∙ (ap (prepend (take n bytes)) (first_here g (drop n bytes) a rest e) ∙ ap (λ (f : List ℕ). Some ((f, a), rest)) (append-nil (take n bytes)))

-- where a grammar can be read at no offset, there is no first place
pub first_nowhere : {A : Type 0} (g : Grammar A) (bytes : List ℕ) → NoneBelow g bytes (length bytes + 1) → first_at g bytes ≡ None
unfolding first_at
first_nowhere g [] none = rw (none 0 (omega arith)) refl
first_nowhere g (b ∷ bs) none = one_place g b bs (none 0 (omega arith)) ∙ ap (prepend (b ∷ [])) (first_nowhere g bs (λ k h. none (suc k) (omega arith)))

-- where g is found nowhere, it stands nowhere
pub unread_lacks : {A : Type 0} (g : Grammar A) → (bytes : List ℕ) → first_at g bytes ≡ None → Lacks g bytes
unfolding first_at
unread_lacks g [] e zero = unspelled g [] (and_then_none (λ x. (([], x.0), x.1)) (g.read []) e)
unread_lacks g [] e (suc k) = unspelled g [] (and_then_none (λ x. (([], x.0), x.1)) (g.read []) e)
unread_lacks g (b ∷ bs) e zero = unspelled g (b ∷ bs) (and_then_none (λ x. (([], x.0), x.1)) (g.read (b ∷ bs)) (both_none _ _ e).0)
unread_lacks g (b ∷ bs) e (suc k) = unread_lacks g bs (and_then_none (λ y. ((b ∷ y.0.0, y.0.1), y.1)) (first_at g bs) (both_none _ _ e).1) k

-- where g stands nowhere, it is found nowhere
pub lacks_unread : {A : Type 0} (g : Grammar A) → (bytes : List ℕ) → Lacks g bytes → first_at g bytes ≡ None
lacks_unread g bytes lacks = first_nowhere g bytes (λ k h. unread g (drop k bytes) (lacks k))

-- where g is found, it stands
pub found_has : {A : Type 0} (g : Grammar A) → (bytes : List ℕ) (x : (List ℕ × A) × List ℕ) → first_at g bytes ≡ Some x → Has g bytes
found_has g bytes x e =
    let s = (first g).takes bytes x e in
    let parts : bytes ≡ x.0.0 ++ (s.2.0 ++ x.1) = s.1 ∙ (ap (λ (u : List ℕ). u ++ x.1) s.2.1 ∙ append_assoc x.0.0 s.2.0 x.1) in
    (length x.0.0, (x.0.1, x.1), (s.2.0, ap (drop (length x.0.0)) parts ∙ drop_at x.0.0 (s.2.0 ++ x.1) (length x.0.0) refl, s.2.2))

-- g can be read somewhere in the text
abbrev pub occurs : {A : Type 0} → Grammar A → List ℕ → Bool
occurs g bytes = is_some (first_at g bytes)

-- a text where it can be read nowhere has none
pub absent_lacks : {A : Type 0} (g : Grammar A) → (bytes : List ℕ) → occurs g bytes ≡ false → Lacks g bytes
absent_lacks {A} g bytes e = unread_lacks g bytes (by_read (first_at g bytes) e)
  where
    by_read : (o : Option ((List ℕ × A) × List ℕ)) → is_some o ≡ false → o ≡ None
    by_read None h = refl
    by_read (Some x) h = absurd (true≢false h)

-- in a text that has none it can be read nowhere
pub lacks_absent : {A : Type 0} (g : Grammar A) → (bytes : List ℕ) → Lacks g bytes → occurs g bytes ≡ false
lacks_absent g bytes lacks = ap is_some (lacks_unread g bytes lacks)

-- a text where it can be read has one
pub occurs_has : {A : Type 0} (g : Grammar A) → (bytes : List ℕ) → occurs g bytes ≡ true → Has g bytes
occurs_has {A} g bytes e = by_read (first_at g bytes) refl e
  where
    by_read : (o : Option ((List ℕ × A) × List ℕ)) → first_at g bytes ≡ o → is_some o ≡ true → Has g bytes
    by_read None r h = absurd (true≢false (sym h))
    by_read (Some x) r h = found_has g bytes x r

-- in a text that has one it can be read
pub has_occurs : {A : Type 0} (g : Grammar A) → (bytes : List ℕ) → Has g bytes → occurs g bytes ≡ true
has_occurs g bytes h = elim (cases_Bool (occurs g bytes)) [
  | inl e ↦ e
  | inr e ↦ absurd (absent_lacks g bytes e h.0 h.1 h.2)
]

-- at no place below `to`, nor at `to` itself
pub one_more : {A : Type 0} (g : Grammar A) (bytes : List ℕ) (to : ℕ) → NoneBelow g bytes to → g.read (drop to bytes) ≡ None → NoneBelow g bytes (to + 1)
one_more g bytes to none e = below_more _ to none e
