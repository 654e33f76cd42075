-- Grammars of byte texts. A grammar says which texts spell a value and how a value is read from the front of bytes, and carries the
-- law that the two agree.
use Rattle.std.proofs.Common.{refl, sym, ap, subst, ◌∙◌, inl, inr, append_assoc, one-add, arith, cond, leb}
use Rattle.std.proofs.{lemmas.List.{take_at, drop_at, take-append-drop, append-nil, length-append, length-take-le}, lemmas.Option.{cond_some, none-some, option_and_then_some, same_Some}}
use Rattle.std.proofs.lemmas.Bool.{leb-true, le-leb, cases_Bool}
use Rattle.std.specs.{Prelude.{◌≡◌, ◌⊎◌, ℕ, suc, nat_le, Bool, true, false, List, [], ◌∷◌, ◌++◌, length, take, drop, Option, Some, None, if◌then◌else◌}, List.{AllByRecursion, prefix_len}}
use Rattle.std.specs.{Option.{option_and_then}, Str.{bytes_eq}}

-- the front of bytes is a text of a value, and what follows it is the rest
abbrev pub Front : {A : Type 0} → (A → List ℕ → List ℕ → Type 0) → List ℕ → A × List ℕ → Type 0
Front Is bytes x = (text : List ℕ) × (bytes ≡ text ++ x.1) × Is x.0 text x.1

-- `Spells a text rest`: where rest follows it, the text spells a. `read`: the value at the front, and what stands after its text.
-- What is read is spelled so, and what is spelled so is read.
pub record Grammar (A : Type 0) : Type 1 where
  pub Spells : A → List ℕ → List ℕ → Type 0
  pub read : List ℕ → Option (A × List ℕ)
  pub takes : (bytes : List ℕ) (x : A × List ℕ) → read bytes ≡ Some x → Front Spells bytes x
  pub again : (a : A) (text rest : List ℕ) → Spells a text rest → read (text ++ rest) ≡ Some (a, rest)

-- the front of bytes spells a value, and what follows is the rest
abbrev pub AtFront : {A : Type 0} → Grammar A → List ℕ → A × List ℕ → Type 0
AtFront g bytes x = (text : List ℕ) × (bytes ≡ text ++ x.1) × g.Spells x.0 text x.1

-- the front of bytes spells no value
abbrev pub NotAtFront : {A : Type 0} → Grammar A → List ℕ → Type 0
NotAtFront {A} g bytes = (x : A × List ℕ) → AtFront g bytes x → ⊥

-- g stands at some offset of bytes
abbrev pub Has : {A : Type 0} → Grammar A → List ℕ → Type 0
Has {A} g bytes = (k : ℕ) × (x : A × List ℕ) × AtFront g (drop k bytes) x

-- g stands at no offset of bytes
abbrev pub Lacks : {A : Type 0} → Grammar A → List ℕ → Type 0
Lacks g bytes = (k : ℕ) → NotAtFront g (drop k bytes)

-- g stands at no place of front, which after follows
abbrev pub NoneIn : {A : Type 0} → Grammar A → List ℕ → List ℕ → Type 0
NoneIn g [] after = Unit {0}
NoneIn g (b ∷ front) after = NotAtFront g (b ∷ (front ++ after)) × NoneIn g front after

-- a grammar is exact: what is read is spelled so, and what is spelled so is read
pub record IsExact {A : Type 0} (g : Grammar A) : Type 0 where
  pub takes : (bytes : List ℕ) (x : A × List ℕ) → g.read bytes ≡ Some x → AtFront g bytes x
  pub again : (a : A) (text rest : List ℕ) → g.Spells a text rest → g.read (text ++ rest) ≡ Some (a, rest)

-- each grammar is
pub exact : {A : Type 0} (g : Grammar A) → IsExact g
exact g = record { takes = g.takes; again = g.again }

-- what the front of bytes spells is read there
pub front_again : {A : Type 0} (g : Grammar A) (bytes : List ℕ) (x : A × List ℕ) → AtFront g bytes x → g.read bytes ≡ Some x
front_again g bytes x s = ap g.read s.1 ∙ g.again x.0 s.0 x.1 s.2

-- where nothing is read, nothing is spelled
pub unspelled : {A : Type 0} (g : Grammar A) (bytes : List ℕ) → g.read bytes ≡ None → NotAtFront g bytes
unspelled g bytes e = λ x s. none-some x (sym e ∙ front_again g bytes x s)

-- where nothing is spelled, nothing is read
pub unread : {A : Type 0} (g : Grammar A) (bytes : List ℕ) → NotAtFront g bytes → g.read bytes ≡ None
unread {A} g bytes none = by_read (g.read bytes) refl
  where
    by_read : (o : Option (A × List ℕ)) → g.read bytes ≡ o → o ≡ None
    by_read None e = refl
    by_read (Some x) e = absurd (none x (g.takes bytes x e))

-- ---- no bytes

module _ {A : Type 0} (a : A) where
  -- no bytes spell a
  abbrev pub SpellsNothing : A → List ℕ → List ℕ → Type 0
  SpellsNothing b text rest = (text ≡ []) × (a ≡ b)

  pub nothing_takes : (bytes : List ℕ) (x : A × List ℕ) → Some (a, bytes) ≡ Some x → Front SpellsNothing bytes x
  nothing_takes bytes x e = subst (Front SpellsNothing bytes) (same_Some (a, bytes) x e) ([], refl, (refl, refl))

  pub nothing_again : (b : A) (text rest : List ℕ) → SpellsNothing b text rest → ◌≡◌ {A = Option (A × List ℕ)} (Some (a, text ++ rest)) (Some (b, rest))
  nothing_again b text rest s = rw (s.0, s.1) refl

-- no bytes
abbrev pub pure : {A : Type 0} → A → Grammar A
pure a = record { Spells = SpellsNothing a; read = λ bytes. Some (a, bytes); takes = nothing_takes a; again = nothing_again a }

-- ---- one text after another

module _ {A B : Type 0} (g : Grammar A) (f : A → Grammar B) where
  -- a text of g, and behind it one of what f makes of its value
  abbrev pub SpellsBoth : B → List ℕ → List ℕ → Type 0
  SpellsBoth b text rest = (a : A) × (front back : List ℕ) × (text ≡ front ++ back) × g.Spells a front (back ++ rest) × (f a).Spells b back rest

  -- g is read, and behind it what f makes of its value
  abbrev pub read_both : List ℕ → Option (B × List ℕ)
  read_both bytes = option_and_then (λ x. (f x.0).read x.1) (g.read bytes)

  pub both_takes : (bytes : List ℕ) (y : B × List ℕ) → read_both bytes ≡ Some y → Front SpellsBoth bytes y
  both_takes bytes y e = option_and_then_some (λ x. (f x.0).read x.1) (g.read bytes) y e (λ x h k.
      let s = g.takes bytes x h in
      let t = (f x.0).takes x.1 y k in
      let whole = s.1 ∙ ap (λ (r : List ℕ). s.0 ++ r) t.1 ∙ sym (append_assoc s.0 t.0 y.1) in
      (s.0 ++ t.0, whole, (x.0, s.0, t.0, refl, subst (λ (r : List ℕ). g.Spells x.0 s.0 r) t.1 s.2, t.2)))

  pub both_again : (b : B) (text rest : List ℕ) → SpellsBoth b text rest → read_both (text ++ rest) ≡ Some (b, rest)
  both_again b text rest s =
      let whole : text ++ rest ≡ s.1 ++ (s.2 ++ rest) = rw s.3 (append_assoc s.1 s.2 rest) in
      rw (whole, g.again s.0 s.1 (s.2 ++ rest) s.4) ((f s.0).again b s.2 rest s.5)

-- one text after another; what the second is may depend on the first one's value
infixl 10 ◌>>=◌
abbrev pub ◌>>=◌ : {A B : Type 0} → Grammar A → (A → Grammar B) → Grammar B
g >>= f = record { Spells = SpellsBoth g f; read = read_both g f; takes = both_takes g f; again = both_again g f }

-- one text after another; the value is the second's
infixl 10 ◌>>◌
abbrev pub ◌>>◌ : {A B : Type 0} → Grammar A → Grammar B → Grammar B
g >> h = g >>= λ _. h

-- ---- a value that passes a test

module _ {A : Type 0} (test : A → Bool) (g : Grammar A) where
  -- a text of g whose value passes
  abbrev pub SpellsTested : A → List ℕ → List ℕ → Type 0
  SpellsTested a text rest = g.Spells a text rest × (test a ≡ true)

  -- g is read, and its value passes
  abbrev pub read_tested : List ℕ → Option (A × List ℕ)
  read_tested bytes = option_and_then (λ x. if test x.0 then Some x else None) (g.read bytes)

  pub tested_takes : (bytes : List ℕ) (y : A × List ℕ) → read_tested bytes ≡ Some y → Front SpellsTested bytes y
  tested_takes bytes y e = option_and_then_some (λ x. cond (test x.0) (Some x) None) (g.read bytes) y e (λ x h k.
      let c = cond_some (test x.0) x y k in
      let s = g.takes bytes y (h ∙ ap Some c.1) in
      (s.0, s.1, (s.2, subst (λ z. test z.0 ≡ true) c.1 c.0)))

  pub tested_again : (a : A) (text rest : List ℕ) → SpellsTested a text rest → read_tested (text ++ rest) ≡ Some (a, rest)
  tested_again a text rest s = rw (g.again a text rest s.0, s.1) refl

-- a value that passes a test
abbrev pub that : {A : Type 0} → (A → Bool) → Grammar A → Grammar A
that test g = record { Spells = SpellsTested test g; read = read_tested test g; takes = tested_takes test g; again = tested_again test g }

-- ---- as many bytes as pass a test

-- the bytes end here, or a byte that fails the test comes
abbrev pub Stops : (ℕ → Bool) → List ℕ → Type 0
Stops p [] = Unit {0}
Stops p (b ∷ bs) = p b ≡ false

module _ (p : ℕ → Bool) where
  -- the value's own bytes, each of which passes, before one that doesn't or the end
  abbrev pub SpellsRun : List ℕ → List ℕ → List ℕ → Type 0
  SpellsRun a text rest = (text ≡ a) × AllByRecursion (λ b. p b ≡ true) a × Stops p rest

  -- the longest prefix whose bytes pass
  abbrev pub read_run : List ℕ → Option (List ℕ × List ℕ)
  read_run bytes = Some (take (prefix_len p bytes) bytes, drop (prefix_len p bytes) bytes)

  prefix_passes : (bytes : List ℕ) → AllByRecursion (λ b. p b ≡ true) (take (prefix_len p bytes) bytes) × Stops p (drop (prefix_len p bytes) bytes)
  prefix_passes [] = (tt, tt)
  prefix_passes (b ∷ bs) =
      elim (cases_Bool (p b)) [
        | inl e ↦ rw (e, one-add) ((e, (prefix_passes bs).0), (prefix_passes bs).1)
        | inr e ↦ rw e (tt, e)
      ]

  prefix_is : (text rest : List ℕ) → AllByRecursion (λ b. p b ≡ true) text → Stops p rest → prefix_len p (text ++ rest) ≡ length text
  prefix_is [] [] a s = refl
  prefix_is [] (b ∷ bs) a s = rw s refl
  prefix_is (t ∷ ts) rest a s = rw (a.0, one-add) (ap suc (prefix_is ts rest a.1 s))

  pub run_takes : (bytes : List ℕ) (x : List ℕ × List ℕ) → read_run bytes ≡ Some x → Front SpellsRun bytes x
  run_takes bytes x e =
      let n = prefix_len p bytes in
      let passed = prefix_passes bytes in
      subst (Front SpellsRun bytes) (same_Some (take n bytes, drop n bytes) x e) (take n bytes, sym (take-append-drop n bytes), (refl, passed.0, passed.1))

  pub run_again : (a text rest : List ℕ) → SpellsRun a text rest → read_run (text ++ rest) ≡ Some (a, rest)
  run_again a text rest s =
      let n = prefix_is a rest s.1 s.2 in
      rw (s.0, n, take_at a rest (length a) refl, drop_at a rest (length a) refl) refl

-- as many bytes as pass the test
abbrev pub run : (ℕ → Bool) → Grammar (List ℕ)
run p = record { Spells = SpellsRun p; read = read_run p; takes = run_takes p; again = run_again p }

-- ---- all bytes, so many bytes, no bytes

-- the value's own bytes, and nothing behind them
abbrev pub SpellsAll : List ℕ → List ℕ → List ℕ → Type 0
SpellsAll a text rest = (text ≡ a) × (rest ≡ [])

pub all_takes : (bytes : List ℕ) (x : List ℕ × List ℕ) → ◌≡◌ {A = Option (List ℕ × List ℕ)} (Some (bytes, [])) (Some x) → Front SpellsAll bytes x
all_takes bytes x e = subst (Front SpellsAll bytes) (same_Some (bytes, []) x e) (bytes, sym (append-nil bytes), (refl, refl))

pub all_again : (a text rest : List ℕ) → SpellsAll a text rest → ◌≡◌ {A = Option (List ℕ × List ℕ)} (Some (text ++ rest, [])) (Some (a, rest))
all_again a text rest s = rw (s.0, s.1, append-nil a) refl

-- all that is left
abbrev pub all : Grammar (List ℕ)
all = record { Spells = SpellsAll; read = λ bytes. Some (bytes, []); takes = all_takes; again = all_again }

module _ (n : ℕ) where
  -- the value's own n bytes
  abbrev pub SpellsCount : List ℕ → List ℕ → List ℕ → Type 0
  SpellsCount a text rest = (text ≡ a) × (length a ≡ n)

  -- the first n bytes
  abbrev pub read_count : List ℕ → Option (List ℕ × List ℕ)
  read_count bytes = if nat_le n (length bytes) then Some (take n bytes, drop n bytes) else None

  pub count_takes : (bytes : List ℕ) (x : List ℕ × List ℕ) → read_count bytes ≡ Some x → Front SpellsCount bytes x
  count_takes bytes x e =
      let c = cond_some (leb n (length bytes)) (take n bytes, drop n bytes) x e in
      subst (Front SpellsCount bytes) c.1 (take n bytes, sym (take-append-drop n bytes), (refl, length-take-le n bytes (leb-true n (length bytes) c.0)))

  pub count_again : (a text rest : List ℕ) → SpellsCount a text rest → read_count (text ++ rest) ≡ Some (a, rest)
  count_again a text rest s =
      let room : leb n (length (a ++ rest)) ≡ true = le-leb n (length (a ++ rest)) (omega (arith, length-append a rest, s.1)) in
      rw (s.0, room, take_at a rest n s.1, drop_at a rest n s.1) refl

-- n bytes, whatever they are
abbrev pub count : ℕ → Grammar (List ℕ)
count n = record { Spells = SpellsCount n; read = read_count n; takes = count_takes n; again = count_again n }

module _ (test : List ℕ → Bool) where
  -- no bytes, and what follows passes
  abbrev pub SpellsBefore : Unit {0} → List ℕ → List ℕ → Type 0
  SpellsBefore _ text rest = (text ≡ []) × (test rest ≡ true)

  -- the bytes pass
  abbrev pub read_before : List ℕ → Option (Unit {0} × List ℕ)
  read_before bytes = if test bytes then Some (tt, bytes) else None

  pub before_takes : (bytes : List ℕ) (x : Unit {0} × List ℕ) → read_before bytes ≡ Some x → Front SpellsBefore bytes x
  before_takes bytes x e =
      let c = cond_some (test bytes) (tt, bytes) x e in
      subst (Front SpellsBefore bytes) c.1 ([], refl, (refl, c.0))

  pub before_again : (a : Unit {0}) (text rest : List ℕ) → SpellsBefore a text rest → read_before (text ++ rest) ≡ Some (a, rest)
  before_again a text rest s = rw (s.0, s.1) refl

-- no bytes, before bytes that pass a test
abbrev pub before : (List ℕ → Bool) → Grammar (Unit {0})
before test = record { Spells = SpellsBefore test; read = read_before test; takes = before_takes test; again = before_again test }

-- these bytes
abbrev pub fixed : List ℕ → Grammar (List ℕ)
fixed bytes = that (bytes_eq bytes) (count (length bytes))

-- g can be read only where the text w stands
abbrev pub Begins : {A : Type 0} → List ℕ → Grammar A → Type 0
Begins w g = (bytes : List ℕ) → (fixed w).read bytes ≡ None → g.read bytes ≡ None

-- ---- one or the other

-- the first answer, else the other
abbrev pub choice : {A : Type 0} → Option A → Option A → Option A
choice (Some x) other = Some x
choice None other = other

pub choice_some : {A : Type 0} (o p : Option A) (x : A) → choice o p ≡ Some x → (o ≡ Some x) ⊎ ((o ≡ None) × (p ≡ Some x))
choice_some (Some y) p x e = inl e
choice_some None p x e = inr (refl, e)

module _ {A : Type 0} (g h : Grammar A) where
  -- a text of g, or one of h where g stands not
  abbrev pub SpellsEither : A → List ℕ → List ℕ → Type 0
  SpellsEither a text rest = g.Spells a text rest ⊎ (h.Spells a text rest × NotAtFront g (text ++ rest))

  -- g is read, else h
  abbrev pub read_either : List ℕ → Option (A × List ℕ)
  read_either bytes = choice (g.read bytes) (h.read bytes)

  pub either_takes : (bytes : List ℕ) (x : A × List ℕ) → read_either bytes ≡ Some x → Front SpellsEither bytes x
  either_takes bytes x e = elim (choice_some (g.read bytes) (h.read bytes) x e) [
    | inl p ↦ let s = g.takes bytes x p in (s.0, s.1, inl s.2)
    | inr p ↦ let s = h.takes bytes x p.1 in (s.0, s.1, inr (s.2, unspelled g (s.0 ++ x.1) (ap g.read (sym s.1) ∙ p.0)))
  ]

  pub either_again : (a : A) (text rest : List ℕ) → SpellsEither a text rest → read_either (text ++ rest) ≡ Some (a, rest)
  either_again a text rest s = elim s [
    | inl p ↦ rw (g.again a text rest p) refl
    | inr p ↦ rw (unread g (text ++ rest) p.1, h.again a text rest p.0) refl
  ]

-- what g spells, or what h spells where g spells nothing
abbrev pub either : {A : Type 0} → Grammar A → Grammar A → Grammar A
either g h = record { Spells = SpellsEither g h; read = read_either g h; takes = either_takes g h; again = either_again g h }

-- a text, or nothing where there is none
abbrev pub may_be : Grammar (List ℕ) → Grammar (List ℕ)
may_be g = either g (pure [])

-- ---- the first place

-- the first place where g can be read: what stands before it, and its value
unfoldable pub first_at : {A : Type 0} → Grammar A → List ℕ → Option ((List ℕ × A) × List ℕ)
first_at g [] = option_and_then (λ x. Some (([], x.0), x.1)) (g.read [])
first_at g (b ∷ bs) =
    choice (option_and_then (λ x. Some (([], x.0), x.1)) (g.read (b ∷ bs))) (option_and_then (λ x. Some ((b ∷ x.0.0, x.0.1), x.1)) (first_at g bs))

-- a value that is only changed is absent where it was absent before
pub and_then_none : {A B : Type 0} (f : A → B) (o : Option A) → option_and_then (λ x. Some (f x)) o ≡ None → o ≡ None
and_then_none f None e = refl
and_then_none f (Some x) e = absurd cc

-- a grammar that can be read at the front is found there first
pub first_here : {A : Type 0} (g : Grammar A) (bytes : List ℕ) (a : A) (rest : List ℕ) →
    g.read bytes ≡ Some (a, rest) → first_at g bytes ≡ Some (([], a), rest)
unfolding first_at
first_here g [] a rest e = rw e refl
first_here g (b ∷ bs) a rest e = rw e refl

module _ {A : Type 0} (g : Grammar A) where
  -- any bytes at no place of which g stands, and a text of g behind them
  abbrev pub SpellsFirst : List ℕ × A → List ℕ → List ℕ → Type 0
  SpellsFirst a text rest = (own : List ℕ) × (text ≡ a.0 ++ own) × g.Spells a.1 own rest × NoneIn g a.0 (own ++ rest)

  -- what is found at the front is spelled there, and stands nowhere before
  here_takes : (bytes : List ℕ) (x : (List ℕ × A) × List ℕ) → option_and_then (λ y. Some (([], y.0), y.1)) (g.read bytes) ≡ Some x → Front SpellsFirst bytes x
  here_takes bytes x e = option_and_then_some (λ y. Some (([], y.0), y.1)) (g.read bytes) x e (λ y p q.
      let s = g.takes bytes y p in
      subst (Front SpellsFirst bytes) (same_Some (([], y.0), y.1) x q) (s.0, s.1, (s.0, refl, s.2, tt)))

  -- so is what is found behind a byte where it doesn't stand
  behind_takes : (b : ℕ) (bs : List ℕ) (y : (List ℕ × A) × List ℕ) →
      g.read (b ∷ bs) ≡ None → Front SpellsFirst bs y → Front SpellsFirst (b ∷ bs) ((b ∷ y.0.0, y.0.1), y.1)
  behind_takes b bs y none s =
      let parts : bs ≡ y.0.0 ++ (s.2.0 ++ y.1) = s.1 ∙ (ap (λ (u : List ℕ). u ++ y.1) s.2.1 ∙ append_assoc y.0.0 s.2.0 y.1) in
      let absent = unspelled g (b ∷ (y.0.0 ++ (s.2.0 ++ y.1))) (subst (λ (u : List ℕ). g.read (b ∷ u) ≡ None) parts none) in
      (b ∷ s.0, ap (λ (u : List ℕ). b ∷ u) s.1, (s.2.0, ap (λ (u : List ℕ). b ∷ u) s.2.1, s.2.2, (absent, s.2.3)))

  pub first_takes : (bytes : List ℕ) (x : (List ℕ × A) × List ℕ) → first_at g bytes ≡ Some x → Front SpellsFirst bytes x
  unfolding first_at
  first_takes [] x e = here_takes [] x e
  first_takes (b ∷ bs) x e =
      let here : Option ((List ℕ × A) × List ℕ) = option_and_then (λ y. Some (([], y.0), y.1)) (g.read (b ∷ bs)) in
      let behind : Option ((List ℕ × A) × List ℕ) = option_and_then (λ y. Some ((b ∷ y.0.0, y.0.1), y.1)) (first_at g bs) in
      elim (choice_some here behind x e) [
        | inl p ↦ here_takes (b ∷ bs) x p
        | inr p ↦ option_and_then_some (λ y. Some ((b ∷ y.0.0, y.0.1), y.1)) (first_at g bs) x p.1 (λ y q r.
            let none = and_then_none (λ y. (([], y.0), y.1)) (g.read (b ∷ bs)) p.0 in
            subst (Front SpellsFirst (b ∷ bs)) (same_Some ((b ∷ y.0.0, y.0.1), y.1) x r) (behind_takes b bs y none (first_takes bs y q)))
      ]

  found_again : (front : List ℕ) (a : A) (own rest : List ℕ) →
      g.Spells a own rest → NoneIn g front (own ++ rest) → first_at g (front ++ (own ++ rest)) ≡ Some ((front, a), rest)
  unfolding first_at
  found_again [] a own rest s none = first_here g (own ++ rest) a rest (g.again a own rest s)
  found_again (b ∷ front) a own rest s none = rw (unread g (b ∷ (front ++ (own ++ rest))) none.0, found_again front a own rest s none.1) refl

  pub first_again : (a : List ℕ × A) (text rest : List ℕ) → SpellsFirst a text rest → first_at g (text ++ rest) ≡ Some (a, rest)
  first_again a text rest s = ap (first_at g) (ap (λ (u : List ℕ). u ++ rest) s.1 ∙ append_assoc a.0 s.0 rest) ∙ found_again a.0 a.1 s.0 rest s.2 s.3

-- any bytes up to the first place where g stands, and g there
abbrev pub first : {A : Type 0} → Grammar A → Grammar (List ℕ × A)
first g = record { Spells = SpellsFirst g; read = first_at g; takes = first_takes g; again = first_again g }
