-- Decimals, digit by digit.
use Rattle.std.proofs.Common.{◌≡◌, ℕ, suc, ◌+◌, ◌*◌, ◌-◌, ◌<◌, Bool, true, false, ◌&&◌, ◌||◌, not, cond, leb, List, [], ◌∷◌, length, take, drop, Option, Some, None, refl, sym, ap, subst}
use Rattle.std.proofs.{Common.{one-add, arith}, lemmas.Bool.{and_parts, agree_below_at, leb-true}, lemmas.Option.{none-some, cond_some}}
use Rattle.std.specs.{List.{prefix_len}, Option.{option_and_then}}
use Rattle.t1_text.specs.Words.{is_regular, regular_comes, first_digit, is_digit, all_digits, decimal, is_decimal, digits_after}

-- ---- decimals, digit by digit

-- what is read of a word whose first k digits spell v: its other bytes, and what stands after them
abbrev word_after : ℕ → ℕ → List ℕ → List ℕ → Option (ℕ × List ℕ)
word_after k v w rest = cond (leb 1 (k + length w) && leb (k + length w) 9 && all_digits w) (Some (digits_after v w, rest)) None

-- what is read of a decimal whose first k digits spell v
abbrev pub decimal_after : ℕ → ℕ → List ℕ → Option (ℕ × List ℕ)
decimal_after k v bytes = word_after k v (take (prefix_len is_regular bytes) bytes) (drop (prefix_len is_regular bytes) bytes)

read_by_test : (b : Bool) (x : List ℕ × List ℕ) (y : ℕ × List ℕ) → y ≡ (digits_after 0 x.0, x.1) →
    cond b (Some y) None ≡ option_and_then (λ z. Some (digits_after 0 z.0, z.1)) (cond b (Some x) None)
read_by_test true x y e = ap Some e
read_by_test false x y e = refl

-- before its first digit that is the decimal
pub decimal_starts : (bytes : List ℕ) → decimal_after 0 0 bytes ≡ decimal.read bytes
unfolding decimal
decimal_starts bytes =
    let w = take (prefix_len is_regular bytes) bytes in
    let whole : 0 + length w ≡ length w = omega arith in
    rw whole (read_by_test (is_decimal w) (w, drop (prefix_len is_regular bytes) bytes) (digits_after 0 w, drop (prefix_len is_regular bytes) bytes) refl)

digit_regular : (b : ℕ) → is_digit b ≡ true → is_regular b ≡ true
digit_regular b h =
    let range = and_parts (leb 48 b) (leb b 57) h in
    let below : b < 58 = omega (arith, leb-true b 57 range.1) in
    rw range.0 at (agree_below_at (λ b. not (leb 48 b) || is_regular b) (λ _. true) 58 b refl below)

digit_first : (k v b : ℕ) (bs : List ℕ) → is_digit b ≡ true → decimal_after (k + 1) (v * 10 + (b - 48)) bs ≡ decimal_after k v (b ∷ bs)
digit_first k v b bs h =
    let n = length (take (prefix_len is_regular bs) bs) in
    let longer : k + suc n ≡ k + 1 + n = omega arith in
    rw (digit_regular b h, one-add, h, longer) refl

-- a digit more
pub decimal_more : (k v d : ℕ) (bytes after : List ℕ) → Some (d, after) ≡ first_digit bytes → decimal_after (k + 1) (v * 10 + d) after ≡ decimal_after k v bytes
decimal_more k v d [] after e = absurd (none-some (d, after) (sym e))
decimal_more k v d (b ∷ bs) after e =
    let c = cond_some (is_digit b) (b - 48, bs) (d, after) (sym e) in
    subst (λ (y : ℕ × List ℕ). decimal_after (k + 1) (v * 10 + y.0) y.1 ≡ decimal_after k v (b ∷ bs)) c.1 (digit_first k v b bs c.0)

and_false : (b : Bool) → (b && false) ≡ false
and_false true = refl
and_false false = refl

not_digit : (b : ℕ) (bs : List ℕ) → None ≡ first_digit (b ∷ bs) → is_digit b ≡ false
not_digit b bs e = by_test (is_digit b) (b - 48, bs) e
  where
    by_test : (t : Bool) (x : ℕ × List ℕ) → None ≡ cond t (Some x) None → t ≡ false
    by_test true x e = absurd (none-some x e)
    by_test false x e = refl

-- a regular byte comes that is no digit
pub decimal_breaks : (k v : ℕ) (bytes : List ℕ) → None ≡ first_digit bytes → true ≡ regular_comes bytes → None ≡ decimal_after k v bytes
decimal_breaks k v [] e h = absurd cc
decimal_breaks k v (b ∷ bs) e h = rw (← h, one-add, not_digit b bs e, and_false) refl

word_ends : (k v : ℕ) (bytes : List ℕ) → regular_comes bytes ≡ false → decimal_after k v bytes ≡ word_after k v [] bytes
word_ends k v [] h = refl
word_ends k v (b ∷ bs) h = rw h refl

-- no digit comes
pub decimal_empty : (k v : ℕ) (bytes : List ℕ) → k ≡ 0 → None ≡ first_digit bytes → None ≡ decimal_after k v bytes
decimal_empty k v bytes none e = by_test (regular_comes bytes) refl
  where
    by_test : (b : Bool) → regular_comes bytes ≡ b → None ≡ decimal_after k v bytes
    by_test true h = decimal_breaks k v bytes e (sym h)
    by_test false h = rw (word_ends k v bytes h, none) refl
