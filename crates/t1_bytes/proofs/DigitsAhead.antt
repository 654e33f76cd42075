-- The digits at the front of a text, and the bytes that they spell.
use Rattle.std.proofs.Common.{◌≡◌, ℕ, zero, suc, ◌+◌, ◌*◌, ◌≤◌, ◌<◌, Bool, true, false, ◌&&◌, List, [], ◌∷◌, ◌++◌, length, take, get_or, Some, refl, sym, ap, subst, ◌∙◌, arith, append_assoc}
use Rattle.std.proofs.{lemmas.Bool.{and_parts}, lemmas.Bool.Decides.{nat_tests}, lemmas.List.{length-append, length-take-le, take_more}, lemmas.List.Sums.{take_while-cons}}
use Rattle.std.specs.List.{AllByRecursion}
use Rattle.hex.specs.Hex.{is_hex_digit}
use Rattle.t1_grammar.specs.Grammar.{Stops, count, run}
use Rattle.t1_bytes.specs.{White.{is_white, white}, Eexec.{digit_value, paired, all_hex, hex_or_white, digits_ahead, spelled_ahead}}

-- ---- one byte

digit_passes : (b : ℕ) → is_hex_digit b ≡ true → hex_or_white b ≡ true
digit_passes b e = rw e refl

white_no_digit : (b : ℕ) → is_white b ≡ true → is_hex_digit b ≡ false
white_no_digit b e = grind (arith, nat_tests)

-- a digit at the front is the first of the digits ahead
pub ahead_digit : (b : ℕ) (bs : List ℕ) → is_hex_digit b ≡ true → digits_ahead (b ∷ bs) ≡ b ∷ digits_ahead bs
unfolding digits_ahead
ahead_digit b bs e = rw take_while-cons (rw (digit_passes b e) (rw e refl))

ahead_white : (b : ℕ) (bs : List ℕ) → is_white b ≡ true → digits_ahead (b ∷ bs) ≡ digits_ahead bs
unfolding digits_ahead
ahead_white b bs e = rw take_while-cons (rw (white_no_digit b e, e) (rw (white_no_digit b e) refl))

ahead_none : (rest : List ℕ) → Stops is_white rest → Stops is_hex_digit rest → digits_ahead rest ≡ []
unfolding digits_ahead
ahead_none [] w d = refl
ahead_none (b ∷ bs) w d = rw take_while-cons (rw (d, w) refl)

-- ---- white space before them

after_white : (front rest : List ℕ) → AllByRecursion (λ b. is_white b ≡ true) front → digits_ahead (front ++ rest) ≡ digits_ahead rest
after_white [] rest w = refl
after_white (b ∷ bs) rest w = ahead_white b (bs ++ rest) w.0 ∙ after_white bs rest w.1

-- what white space leaves of a text: the same digits, at most as many bytes, and no white space first
pub record Left (text rest : List ℕ) : Type 0 where
  pub digits : digits_ahead text ≡ digits_ahead rest
  pub no_longer : length rest ≤ length text
  pub black : Stops is_white rest

-- a text is left with the same digits ahead once its white space is skipped
pub skipped : (text front rest : List ℕ) → Some (front, rest) ≡ white.read text → Left text rest
skipped text front rest e =
    let s = (run is_white).takes text (front, rest) (sym e) in
    let whole : text ≡ front ++ rest = s.1 ∙ ap (λ (u : List ℕ). u ++ rest) s.2.0 in
    record {
      digits = ap digits_ahead whole ∙ after_white front rest s.2.1;
      no_longer = omega (arith, ap length whole, length-append front rest);
      black = s.2.2;
    }

-- ---- the next digit

-- a digit behind the white space is the first of the digits ahead
pub one_digit : (text rest bs : List ℕ) (b : ℕ) → Left text rest → rest ≡ b ∷ bs → is_hex_digit b ≡ true → digits_ahead text ≡ b ∷ digits_ahead bs
one_digit text rest bs b left e digit = left.digits ∙ (ap digits_ahead e ∙ ahead_digit b bs digit)

-- a text of white space alone has no digits ahead
pub no_bytes : (text rest : List ℕ) → Left text rest → length rest ≡ 0 → digits_ahead text ≡ []
no_bytes text [] left e = left.digits ∙ ahead_none [] tt tt
no_bytes text (b ∷ bs) left e = absurd (omega arith)

-- where another byte stands behind the white space, no digits are ahead
pub other_byte : (text rest bs : List ℕ) (b : ℕ) → Left text rest → rest ≡ b ∷ bs → is_hex_digit b ≡ false → digits_ahead text ≡ []
other_byte text rest bs b left e other = left.digits ∙ (ap digits_ahead e ∙ ahead_none (b ∷ bs) (subst (Stops is_white) e left.black) other)

-- ---- the next byte

-- where no digits are ahead, no bytes are spelled
pub no_pair : (text : List ℕ) → digits_ahead text ≡ [] → spelled_ahead text ≡ []
unfolding spelled_ahead
no_pair text e = ap paired e

-- a last digit without its partner spells no byte
pub half_pair : (text rest : List ℕ) (high : ℕ) → digits_ahead text ≡ high ∷ digits_ahead rest → digits_ahead rest ≡ [] → spelled_ahead text ≡ []
unfolding spelled_ahead
half_pair text rest high e f = ap paired (e ∙ ap (λ (u : List ℕ). high ∷ u) f)

-- the first two digits ahead spell the first byte
pub one_pair : (text rest after : List ℕ) (high low : ℕ) → digits_ahead text ≡ high ∷ digits_ahead rest → digits_ahead rest ≡ low ∷ digits_ahead after →
    spelled_ahead text ≡ (digit_value high * 16 + digit_value low) ∷ spelled_ahead after
unfolding spelled_ahead
one_pair text rest after high low e f = ap paired (e ∙ ap (λ (u : List ℕ). high ∷ u) f)

-- ---- a full line

paired_parts : (n : ℕ) (front back : List ℕ) → length front ≡ n * 2 → paired (front ++ back) ≡ paired front ++ paired back
paired_parts n [] back e = refl
paired_parts n (b ∷ []) back e = absurd (omega arith)
paired_parts zero (high ∷ low ∷ rest) back e = absurd (omega arith)
paired_parts (suc n) (high ∷ low ∷ rest) back e =
    ap (λ (bytes : List ℕ). (digit_value high * 16 + digit_value low) ∷ bytes) (paired_parts n rest back (omega arith))

line_digits : (line after : List ℕ) → all_hex line ≡ true → digits_ahead (line ++ after) ≡ line ++ digits_ahead after
line_digits [] after e = refl
line_digits (b ∷ bs) after e =
    let both = and_parts (is_hex_digit b) (all_hex bs) e in
    ahead_digit b (bs ++ after) both.0 ∙ ap (λ (u : List ℕ). b ∷ u) (line_digits bs after both.1)

-- a line was counted off: its digits come first, and then those after it
pub record Counted (rest line after : List ℕ) : Type 0 where
  pub whole : rest ≡ line ++ after
  pub full : length line ≡ 64

-- 64 bytes that are counted off a text are a line of it
pub counted : (rest line after : List ℕ) → Some (line, after) ≡ (count 64).read rest → Counted rest line after
counted rest line after e =
    let s = (count 64).takes rest (line, after) (sym e) in
    record { whole = s.1 ∙ ap (λ (u : List ℕ). u ++ after) s.2.0; full = s.2.1 }

-- what stands after a line is shorter than the text
pub line_shorter : (text rest line after : List ℕ) → Left text rest → Counted rest line after → length after < length text
line_shorter text rest line after left c = omega (arith, left.no_longer, ap length c.whole, length-append line after, c.full)

-- a line of 64 digits spells its 32 bytes, and what follows spells the others
pub one_full_line : (text rest line after : List ℕ) → Left text rest → Counted rest line after → all_hex line ≡ true →
    spelled_ahead text ≡ paired line ++ spelled_ahead after
unfolding spelled_ahead
one_full_line text rest line after left c e =
    ap paired (left.digits ∙ (ap digits_ahead c.whole ∙ line_digits line after e)) ∙ paired_parts 32 line (digits_ahead after) c.full

-- ---- loops over a line

and_true : (b : Bool) → (b && true) ≡ b
and_true true = refl
and_true false = refl

and_assoc : (a b c : Bool) → (a && (b && c)) ≡ ((a && b) && c)
and_assoc true b c = refl
and_assoc false b c = refl

hex_and_one : (bytes : List ℕ) (b : ℕ) → all_hex (bytes ++ b ∷ []) ≡ (all_hex bytes && is_hex_digit b)
hex_and_one [] b = and_true (is_hex_digit b)
hex_and_one (x ∷ xs) b = ap (λ (r : Bool). is_hex_digit x && r) (hex_and_one xs b) ∙ and_assoc (is_hex_digit x) (all_hex xs) (is_hex_digit b)

-- the first i + 1 bytes are digits if the first i are and the next one is
pub one_more_hex : (bytes : List ℕ) (i : ℕ) → i < length bytes → all_hex (take (i + 1) bytes) ≡ (all_hex (take i bytes) && is_hex_digit (get_or bytes i 0))
one_more_hex bytes i h = ap all_hex (take_more bytes i 0 h) ∙ hex_and_one (take i bytes) (get_or bytes i 0)

-- one more pair of digits spells one more byte
pub one_more_pair : (line : List ℕ) (i : ℕ) → 2 * i + 1 < length line →
    paired (take (2 * (i + 1)) line) ≡ paired (take (2 * i) line) ++ (digit_value (get_or line (2 * i) 0) * 16 + digit_value (get_or line (2 * i + 1) 0)) ∷ []
one_more_pair line i h =
    let j : ℕ = 2 * i in
    let first : take (j + 1) line ≡ take j line ++ get_or line j 0 ∷ [] = take_more line j 0 (omega arith) in
    let second : take ((j + 1) + 1) line ≡ take (j + 1) line ++ get_or line (j + 1) 0 ∷ [] = take_more line (j + 1) 0 h in
    let twice : j ≡ i * 2 = omega arith in
    let size : 2 * (i + 1) ≡ (j + 1) + 1 = omega arith in
    let two : take (2 * (i + 1)) line ≡ take j line ++ (get_or line j 0 ∷ get_or line (j + 1) 0 ∷ []) =
    ap (λ (n : ℕ). take n line) size ∙ (second
    ∙ (ap (λ (u : List ℕ). u ++ get_or line (j + 1) 0 ∷ []) first ∙ append_assoc (take j line) (get_or line j 0 ∷ []) (get_or line (j + 1) 0 ∷ []))) in
    ap paired two ∙ paired_parts i (take j line) _ (length-take-le j line (omega arith) ∙ twice)
