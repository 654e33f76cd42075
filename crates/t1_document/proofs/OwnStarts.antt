-- Words that stand in texts, and the loop that finds what the pool's names begin with.
use Rattle.std.proofs.Common.{◌≡◌, ◌≤◌, ◌<◌, ◌+◌, min, ℕ, zero, suc, Bool, true, false, cond, List, [], ◌∷◌, ◌++◌, length, take, drop, replicate, Option, Some, None}
use Rattle.std.proofs.Common.{is_some, refl, sym, ap, ◌∙◌, inl, inr, arith, append_assoc}
use Rattle.std.proofs.{lemmas.Bool.{cases_Bool}, lemmas.Option.{none-some}}
use Rattle.std.proofs.lemmas.List.{length-append, length-drop, length-take, length-replicate, get_or-take, get_or-drop, ext_get_or, take-append-drop, replicate_more}
use Rattle.std.specs.Prelude.{codes, IfSome, MatchOption}
use Rattle.bstr.specs.Find.{OccursAt, Nowhere}
use Rattle.t1_grammar.specs.{Grammar.{fixed, unread}, Places.{occurs, occurs_has, absent_lacks}}
use Rattle.t1_bytes.proofs.Places.{nowhere_at}
use Rattle.t1_font.proofs.canonical.EntriesWritten.{fixed_read}
use Rattle.t1_document.{specs.{Pooling.{own_start, start_from, free_start}, PoolLaws.{StartIsFree}}, proofs.FontLemmas.{fixed_is}}

-- ---- a word in a text

-- the bytes where a word occurs are the word
occurs_is : (w text : List ℕ) (at : ℕ) → OccursAt text w at → take (length w) (drop at text) ≡ w
occurs_is w text at o =
    ext_get_or 0 _ _ (length-take (length w) (drop at text) ∙ shorter)
    (λ i h.
    let within : i < length w = omega (arith, h, length-take (length w) (drop at text), shorter) in
    get_or-take (length w) (drop at text) i 0 within ∙ (get_or-drop at text i 0 ∙ o.reads i within))
  where
    shorter : min (length w) (length (drop at text)) ≡ length w
    shorter = omega (arith, o.fits, length-drop at text)

-- a word that occurs stands there
occurs_stands : (w text : List ℕ) (at : ℕ) → OccursAt text w at → occurs (fixed w) text ≡ true
occurs_stands w text at o = elim (cases_Bool (occurs (fixed w) text)) [
  | inl e ↦ e
  | inr e ↦
      let rest = drop (length w) (drop at text) in
      let there : drop at text ≡ w ++ rest =
      sym (take-append-drop (length w) (drop at text)) ∙ ap (λ (u : List ℕ). u ++ rest) (occurs_is w text at o) in
      absurd (none-some (w, rest)
      (sym (unread (fixed w) (drop at text) (absent_lacks (fixed w) text e at)) ∙ (ap (fixed w).read there ∙ fixed_read w rest)))
]

-- whether it stands there, by a search
pub stands_by : (w text : List ℕ) (o : Option ℕ) (b : Bool) → b ≡ is_some o →
    MatchOption o (Nowhere (OccursAt text w) 0 (length text + 1)) (Nowhere (OccursAt text w) 0) → IfSome o (OccursAt text w) → b ≡ occurs (fixed w) text
stands_by w text None b e absent found = e ∙ ap is_some (nowhere_at w (fixed w) (λ bytes k. k) text 0 (λ k h. absurd (omega (arith, h))) absent)
stands_by w text (Some at) b e absent found = e ∙ sym (occurs_stands w text at found)

-- a word that stands there is no longer than the text
stands_short : (w text : List ℕ) → occurs (fixed w) text ≡ true → length w ≤ length text
stands_short w text e =
    let h = occurs_has (fixed w) text e in
    let own : h.2.0 ≡ w = fixed_is w h.1.0 h.2.0 h.1.1 h.2.2 in
    omega (arith, ap length h.2.1, length-append h.2.0 h.1.1, ap length own, length-drop h.0 text)

-- ---- the start of the pool's names

-- so many colons were tried, and may be tried still
abbrev pub Starts : List ℕ → List ℕ → Type 0
Starts text start = (n : ℕ) × (more : ℕ) × (start ≡ own_start n) × (start_from more n text ≡ free_start text) × (n + more ≡ length text + 1)

pub own_length : (n : ℕ) → length (own_start n) ≡ 5 + n
own_length n = length-append (codes "/pool") (replicate n 58) ∙ ap (λ (m : ℕ). 5 + m) (length-replicate n 58)

pub starts_first : (text : List ℕ) → Starts text (codes "/pool:")
starts_first text = (1, length text, refl, refl, omega arith)

-- one that stands in the text is followed by one with a colon more
pub starts_next : (text start : List ℕ) → occurs (fixed start) text ≡ true → Starts text start → Starts text (start ++ 58 ∷ [])
unfolding start_from
starts_next text start e (n, zero, is, from, sum) = absurd (omega (arith, stands_short start text e, ap length is, own_length n, sum))
starts_next text start e (n, suc more, is, from, sum) = (
  suc n,
  more,
  ap (λ (u : List ℕ). u ++ 58 ∷ []) is
      ∙ (append_assoc (codes "/pool") (replicate n 58) (58 ∷ [])
      ∙ ap (λ (u : List ℕ). codes "/pool" ++ u) (replicate_more n 58 ∙ ap (λ (m : ℕ). replicate m 58) one_more)),
  sym (ap (λ (b : Bool). cond b (start_from more (suc n) text) (own_start n)) (ap (λ (u : List ℕ). occurs (fixed u) text) (sym is) ∙ e)) ∙ from,
  omega (arith, sum),
)
  where
    one_more : n + 1 ≡ suc n
    one_more = omega arith

-- one that doesn't is the start
pub starts_last : (text start : List ℕ) → occurs (fixed start) text ≡ false → Starts text start → start ≡ free_start text
unfolding start_from
starts_last text start e (n, zero, is, from, sum) = is ∙ from
starts_last text start e (n, suc more, is, from, sum) =
    is ∙ (sym (ap (λ (b : Bool). cond b (start_from more (suc n) text) (own_start n)) (ap (λ (u : List ℕ). occurs (fixed u) text) (sym is) ∙ e)) ∙ from)

-- the next one is nearer to the length of the text
pub starts_smaller : (text start : List ℕ) → occurs (fixed start) text ≡ true → length start ≤ length text
starts_smaller text start e = stands_short start text e

-- a word that is longer than a text stands nowhere in it
too_long : (w text : List ℕ) → length text < length w → occurs (fixed w) text ≡ false
too_long w text longer = elim (cases_Bool (occurs (fixed w) text)) [
  | inl e ↦ absurd (omega (arith, stands_short w text e, longer))
  | inr e ↦ e
]

free_from : (more n : ℕ) (text : List ℕ) → length text ≤ more + n → occurs (fixed (start_from more n text)) text ≡ false
unfolding start_from
free_from zero n text le = too_long (own_start n) text (omega (arith, le, own_length n))
free_from (suc more) n text le = by_there (occurs (fixed (own_start n)) text) refl (free_from more (suc n) text (omega (arith, le)))
  where
    by_there : (b : Bool) → occurs (fixed (own_start n)) text ≡ b → occurs (fixed (start_from more (suc n) text)) text ≡ false →
        occurs (fixed (cond b (start_from more (suc n) text) (own_start n))) text ≡ false
    by_there true e later = later
    by_there false e later = e

-- the start that is found stands nowhere in the text
pub start_is_free : StartIsFree
start_is_free text = free_from (length text) 1 text (omega arith)
