-- How many bytes a document has is counted piece by piece.
use Rattle.std.proofs.Common.{append_assoc, take, ◌≡◌, ℕ, zero, suc, ◌+◌, ◌-◌, ◌≤◌, ◌<◌, arith, Bool, true, false, cond, List, [], ◌∷◌, ◌++◌, length, drop, Option, Some, None, refl, sym, ap, ◌∙◌}
use Rattle.std.proofs.lemmas.Bool.{true≢false, eqb-true, lt-ltb}
use Rattle.std.specs.Prelude.{◌==◌, nat_lt}
use Rattle.std.proofs.lemmas.List.{length-append, length-drop, drop_at, drop-drop, drop_all, take-append-drop}
use Rattle.t1_bytes.specs.White.{has_bytes}
use Rattle.t1_jobs.specs.Words.{behind_words, may_end, another_begins, further, at_words, len_within, document_len, Scanned}
use Rattle.t1_jobs.proofs.WordLemmas.{behind_shorter, ends_behind}

-- ---- room

same_at_words : (f g : List ℕ → Option ℕ) (text behind : List ℕ) → f behind ≡ g behind → at_words f text behind ≡ at_words g text behind
same_at_words f g text behind e = by_bytes (has_bytes behind) (another_begins text behind)
  where
    by_bytes : (b c : Bool) → cond b (cond c None (further (length text - length behind) (f behind))) (Some 0)
        ≡ cond b (cond c None (further (length text - length behind) (g behind))) (Some 0)
    by_bytes false c = refl
    by_bytes true true = refl
    by_bytes true false = ap (further (length text - length behind)) e

-- more room than there are bytes changes nothing
enough : (n m : ℕ) (text : List ℕ) → length text ≤ n → length text ≤ m → len_within n text ≡ len_within m text
unfolding len_within
enough zero zero [] h k = refl
enough zero (suc m) [] h k = refl
enough (suc n) zero [] h k = refl
enough (suc n) (suc m) [] h k = refl
enough zero m (b ∷ bs) h k = absurd (omega (arith, h))
enough (suc n) zero (b ∷ bs) h k = absurd (omega (arith, k))
enough (suc n) (suc m) (b ∷ bs) h k = by_end (enough n m) (may_end (b ∷ bs)) refl
  where
    by_end : ((t : List ℕ) → length t ≤ n → length t ≤ m → len_within n t ≡ len_within m t) → (c : Bool) → may_end (b ∷ bs) ≡ c →
        cond c (at_words (len_within n) (b ∷ bs) (behind_words (b ∷ bs))) (further 1 (len_within n bs))
        ≡ cond c (at_words (len_within m) (b ∷ bs) (behind_words (b ∷ bs))) (further 1 (len_within m bs))
    by_end same false e = ap (further 1) (same bs (omega (arith, h)) (omega (arith, k)))
    by_end same true e =
        let less = behind_shorter (b ∷ bs) e in
        same_at_words (len_within n) (len_within m) (b ∷ bs) (behind_words (b ∷ bs))
        (same (behind_words (b ∷ bs)) (omega (arith, h, less)) (omega (arith, k, less)))

-- ---- steps

-- a byte at which no job may end is the document's
pub one_byte : (b : ℕ) (bs : List ℕ) → may_end (b ∷ bs) ≡ false → document_len (b ∷ bs) ≡ further 1 (document_len bs)
unfolding len_within
one_byte b bs e = ap (λ c. cond c (at_words (len_within (length bs)) (b ∷ bs) (behind_words (b ∷ bs))) (further 1 (document_len bs))) e

-- words at which a job may end
pub some_words : (b : ℕ) (bs : List ℕ) → may_end (b ∷ bs) ≡ true → document_len (b ∷ bs) ≡ at_words document_len (b ∷ bs) (behind_words (b ∷ bs))
unfolding len_within
some_words b bs e =
    let less = behind_shorter (b ∷ bs) e in
    let behind : List ℕ = behind_words (b ∷ bs) in
    ap (λ c. cond c (at_words (len_within (length bs)) (b ∷ bs) behind) (further 1 (document_len bs))) e
    ∙ same_at_words (len_within (length bs)) document_len (b ∷ bs) behind (enough (length bs) (length behind) behind (omega (arith, less)) (omega arith))

-- ---- a scan

further_twice : (n m : ℕ) (o : Option ℕ) → further n (further m o) ≡ further (n + m) o
further_twice n m None = refl
further_twice n m (Some k) = ap Some (omega arith)

scanned_on : (text : List ℕ) (at next n : ℕ) → Scanned text at → at + n ≡ next → next ≤ length text →
    document_len (drop at text) ≡ further n (document_len (drop next text)) → Scanned text next
scanned_on text at next n s k le e = record {
  within = le;
  left = s.left ∙ (ap (further at) e ∙ (further_twice at n (document_len (drop next text)) ∙ ap (λ m. further m (document_len (drop next text))) k));
}

-- one byte more is passed
pub byte_passed : (text : List ℕ) (at : ℕ) → at < length text → may_end (drop at text) ≡ false → Scanned text at → Scanned text (at + 1)
byte_passed text at lt e s = by_bytes (drop at text) refl
  where
    by_bytes : (here : List ℕ) → drop at text ≡ here → Scanned text (at + 1)
    by_bytes [] h = absurd (omega (arith, lt, length-drop at text, ap length h))
    by_bytes (b ∷ bs) h =
        let rest : bs ≡ drop (at + 1) text = sym (ap (drop 1) h) ∙ drop-drop 1 at text in
        let one : document_len (b ∷ bs) ≡ further 1 (document_len bs) = one_byte b bs (ap may_end (sym h) ∙ e) in
        scanned_on text at (at + 1) 1 s refl (omega (arith, lt))
        (ap document_len h ∙ (one ∙ ap (λ (t : List ℕ). further 1 (document_len t)) rest))

-- what the words are at a place where a job may end
words_here : (text : List ℕ) (at : ℕ) → at < length text → may_end (drop at text) ≡ true →
    document_len (drop at text) ≡ at_words document_len (drop at text) (behind_words (drop at text))
words_here text at lt e = by_bytes (drop at text) refl e
  where
    by_bytes : (here : List ℕ) → drop at text ≡ here → may_end here ≡ true → document_len here ≡ at_words document_len here (behind_words here)
    by_bytes [] h f = absurd (omega (arith, lt, length-drop at text, ap length h))
    by_bytes (b ∷ bs) h f = some_words b bs f

none_behind : (here : List ℕ) → has_bytes (behind_words here) ≡ false → at_words document_len here (behind_words here) ≡ Some 0
none_behind here none =
    let behind = behind_words here in
    ap (λ b. cond b (cond (another_begins here behind) None (further (length here - length behind) (document_len behind))) (Some 0)) none

-- the document ends before words that end the text
pub ended : (text : List ℕ) (at : ℕ) → at < length text → may_end (drop at text) ≡ true → has_bytes (behind_words (drop at text)) ≡ false →
    Scanned text at → document_len text ≡ Some at
ended text at lt e none s =
    let here = drop at text in
    let words = words_here text at lt e in
    let end : at_words document_len here (behind_words here) ≡ Some 0 =
    none_behind here none in
    s.left ∙ (ap (further at) (words ∙ end) ∙ ap Some (omega arith))

-- it is no document where something else begins behind the words
pub broken : (text : List ℕ) (at : ℕ) → at < length text → may_end (drop at text) ≡ true → has_bytes (behind_words (drop at text)) ≡ true →
    another_begins (drop at text) (behind_words (drop at text)) ≡ true → Scanned text at → document_len text ≡ None
broken text at lt e some other s =
    let here = drop at text in
    let behind = behind_words here in
    let words = words_here text at lt e in
    let end : at_words document_len here behind ≡ None =
    ap (λ b. cond b (cond (another_begins here behind) None (further (length here - length behind) (document_len behind))) (Some 0)) some
    ∙ ap (λ b. cond b None (further (length here - length behind) (document_len behind))) other in
    s.left ∙ ap (further at) (words ∙ end)

-- what stands behind the words at a place
pub record Behind (text : List ℕ) (at next : ℕ) : Type 0 where
  pub within : next ≤ length text
  pub more : at < next
  pub passed : Scanned text next

-- words that are data are passed
pub words_passed : (text behind : List ℕ) (at : ℕ) → at < length text → behind ≡ behind_words (drop at text) → may_end (drop at text) ≡ true →
    has_bytes behind ≡ true → another_begins (drop at text) behind ≡ false → Scanned text at →
    (length behind ≤ length text) × Behind text at (length text - length behind)
words_passed text behind at lt is e some other s =
    let here = drop at text in
    let less : length behind < length here = omega (arith, ap length is, behind_shorter here e) in
    let there : length here ≡ length text - at = length-drop at text in
    let next = length text - length behind in
    let u = ends_behind (length here) here in
    let whole : text ≡ (take at text ++ u.0) ++ behind =
    sym (take-append-drop at text)
    ∙ (ap (λ (t : List ℕ). take at text ++ t) (u.1 ∙ ap (λ (t : List ℕ). u.0 ++ t) (sym is)) ∙ sym (append_assoc (take at text) u.0 behind)) in
    let front : length (take at text ++ u.0) ≡ next = omega (arith, ap length whole, length-append (take at text ++ u.0) behind) in
    let rest : drop next text ≡ behind = ap (drop next) whole ∙ drop_at (take at text ++ u.0) behind next front in
    let end : at_words document_len here behind ≡ further (length here - length behind) (document_len behind) =
    ap (λ b. cond b (cond (another_begins here behind) None (further (length here - length behind) (document_len behind))) (Some 0)) some
    ∙ ap (λ b. cond b None (further (length here - length behind) (document_len behind))) other in
    let words : document_len here ≡ at_words document_len here behind =
    words_here text at lt e ∙ ap (at_words document_len here) (sym is) in (
      omega (arith, less, there),
      record {
        within = omega arith;
        more = omega (arith, less, there, lt);
        passed = scanned_on text at next (length here - length behind) s (omega (arith, less, there, lt)) (omega arith)
            (words ∙ (end ∙ ap (λ (t : List ℕ). further (length here - length behind) (document_len t)) (sym rest)));
      },
    )

none_left : (at : ℕ) → further at (document_len []) ≡ Some at
unfolding len_within
none_left at = ap Some (omega arith)

-- where the text ends, all of it is the document
pub through : (text : List ℕ) (at : ℕ) → length text ≤ at → Scanned text at → document_len text ≡ Some at
through text at le s = s.left ∙ (ap (λ (t : List ℕ). further at (document_len t)) (drop_all at text le) ∙ none_left at)

-- no byte was passed yet
pub begun : (text : List ℕ) → Scanned text 0
begun text = record { within = omega arith; left = same (document_len text) }
  where
    same : (o : Option ℕ) → o ≡ further 0 o
    same None = refl
    same (Some n) = ap Some (omega arith)

-- ---- no bytes

pub none_has : (text : List ℕ) → (length text == 0) ≡ true → has_bytes text ≡ false
none_has text e = by_length (length text) (eqb-true (length text) 0 e)
  where
    by_length : (n : ℕ) → n ≡ 0 → nat_lt 0 n ≡ false
    by_length n e = ap (nat_lt 0) e

pub some_has : (text : List ℕ) → (length text == 0) ≡ false → has_bytes text ≡ true
some_has [] e = absurd (true≢false e)
some_has (b ∷ bs) e = lt-ltb 0 (length (b ∷ bs)) (omega arith)
