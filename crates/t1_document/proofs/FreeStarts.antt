-- The longest of starts of names, which stands in none of some texts.
use Rattle.std.proofs.Common.{◌≡◌, ◌≤◌, ◌+◌, ◌-◌, ℕ, zero, suc, Bool, true, false, cond, List, [], ◌∷◌, ◌++◌, length, drop, replicate, Some, refl, sym, ap, ◌∙◌, inl, inr}
use Rattle.std.proofs.{Common.{arith, append_assoc}, lemmas.Bool.{cases_Bool, cases_lt, lt-ltb, le-ltb}, lemmas.List.{replicate-append-replicate}}
use Rattle.std.proofs.lemmas.{Option.{none-some}, Slice.Eq.{bytes_eq-Decides}}
use Rattle.std.specs.{Prelude.{codes}, List.{AllByRecursion}}
use Rattle.t1_grammar.specs.{Grammar.{fixed, unread}, Places.{occurs, occurs_has, absent_lacks}}
use Rattle.t1_document.{specs.Pooling.{own_start, start_from, free_start, longer, longest}, proofs.{FontLemmas.{fixed_is}, OwnStarts.{own_length, start_is_free}}}

fixed_reads : (w rest : List ℕ) → (fixed w).read (w ++ rest) ≡ Some (w, rest)
fixed_reads w rest = (fixed w).again w w rest ((refl, refl), (bytes_eq-Decides w w).1 refl)

-- where a word doesn't stand, no longer one that begins with it does
longer_absent : (w more text : List ℕ) → occurs (fixed w) text ≡ false → occurs (fixed (w ++ more)) text ≡ false
longer_absent w more text e = elim (cases_Bool (occurs (fixed (w ++ more)) text)) [
  | inl k ↦
      let h = occurs_has (fixed (w ++ more)) text k in
      let own : h.2.0 ≡ w ++ more = fixed_is (w ++ more) h.1.0 h.2.0 h.1.1 h.2.2 in
      let there : drop h.0 text ≡ w ++ (more ++ h.1.1) = h.2.1 ∙ (ap (λ (u : List ℕ). u ++ h.1.1) own ∙ append_assoc w more h.1.1) in
      absurd (none-some (w, more ++ h.1.1)
      (sym (unread (fixed w) (drop h.0 text) (absent_lacks (fixed w) text e h.0)) ∙ (ap (fixed w).read there ∙ fixed_reads w (more ++ h.1.1))))
  | inr k ↦ k
]

-- ---- starts

-- a start of names
abbrev pub IsStart : List ℕ → Type 0
IsStart s = (n : ℕ) × (s ≡ own_start n)

-- the longer of two begins with the other
starts_apart : (a b : List ℕ) → IsStart a → IsStart b → length a ≤ length b → (more : List ℕ) × (b ≡ a ++ more)
starts_apart a b (n, e) (m, f) le =
    let sum : m ≡ n + (m - n) = omega (arith, ap length e, ap length f, own_length n, own_length m, le) in (
      replicate (m - n) 58,
      f ∙ (ap own_start sum ∙ (ap (λ (t : List ℕ). codes "/pool" ++ t) (sym (replicate-append-replicate n (m - n) 58))
          ∙ (sym (append_assoc (codes "/pool") (replicate n 58) (replicate (m - n) 58)) ∙ ap (λ (t : List ℕ). t ++ replicate (m - n) 58) (sym e)))),
    )

-- so where the other doesn't stand, it doesn't
pub start_absent : (a b text : List ℕ) → IsStart a → IsStart b → length a ≤ length b → occurs (fixed a) text ≡ false → occurs (fixed b) text ≡ false
start_absent a b text is_a is_b le e =
    let x = starts_apart a b is_a is_b le in
    ap (λ (w : List ℕ). occurs (fixed w) text) x.1 ∙ longer_absent a x.0 text e

start_from_is : (more n : ℕ) (text : List ℕ) → IsStart (start_from more n text)
unfolding start_from
start_from_is zero n text = (n, refl)
start_from_is (suc more) n text = by_there (occurs (fixed (own_start n)) text) (start_from_is more (suc n) text)
  where
    by_there : (b : Bool) → IsStart (start_from more (suc n) text) → IsStart (cond b (start_from more (suc n) text) (own_start n))
    by_there true later = later
    by_there false later = (n, refl)

pub free_is : (text : List ℕ) → IsStart (free_start text)
free_is text = start_from_is (length text) 1 text

-- ---- the longest

-- the longer of two is a start, and as long as either
record Longer (a b : List ℕ) : Type 0 where
  is : IsStart (longer a b)
  first : length a ≤ length (longer a b)
  second : length b ≤ length (longer a b)

the_longer : (a b : List ℕ) → IsStart a → IsStart b → Longer a b
the_longer a b is_a is_b = elim (cases_lt (length a) (length b)) [
  | inl lt ↦ let t = lt-ltb (length a) (length b) lt in record { is = rw t is_b; first = rw t (omega (arith, lt)); second = rw t (omega arith) }
  | inr le ↦ let f = le-ltb (length a) (length b) le in record { is = rw f is_a; first = rw f (omega arith); second = rw f (omega (arith, le)) }
]

-- the longest of a start and of others is a start, as long as the first
pub record Longest (start : List ℕ) (ds : List (List ℕ)) : Type 0 where
  pub is : IsStart (longest start ds)
  pub first : length start ≤ length (longest start ds)

pub the_longest : (start : List ℕ) (ds : List (List ℕ)) → IsStart start → Longest start ds
the_longest start [] is = record { is = is; first = omega arith }
the_longest start (d ∷ ds) is =
    let next = the_longer start (free_start d) is (free_is d) in
    let last = the_longest (longer start (free_start d)) ds next.is in
    record { is = last.is; first = omega (arith, next.first, last.first) }

pub all_free : (start : List ℕ) (ds : List (List ℕ)) → IsStart start → AllByRecursion (λ d. occurs (fixed (longest start ds)) d ≡ false) ds
all_free start [] is = tt
all_free start (d ∷ ds) is =
    let next = the_longer start (free_start d) is (free_is d) in
    let last = the_longest (longer start (free_start d)) ds next.is in (
      start_absent (free_start d) (longest (longer start (free_start d)) ds) d (free_is d) last.is (omega (arith, next.second, last.first)) (start_is_free d),
      all_free (longer start (free_start d)) ds next.is,
    )
