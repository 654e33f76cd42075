-- What is written as a cipher is read as it: lines of hexadecimal digits before the trailer, and binary bytes.
use Rattle.std.proofs.Common.{◌≡◌, ℕ, zero, suc, ◌*◌, ◌/◌, ◌%◌, ◌+◌, ◌≤◌, ◌<◌, Bool, true, false, leb, eqb, ◌&&◌, List, [], ◌∷◌, ◌++◌, length, get_or, Some, None, refl, sym, ap, ◌∙◌, append_assoc}
use Rattle.std.proofs.{Common.{arith}, lemmas.Bool.{le-leb, agree_below_at, eqb-true, and_parts}, lemmas.List.{length-append}}
use Rattle.std.specs.{Prelude.{codes, filter, replicate}, List.{AllByRecursion}}
use Rattle.hex.specs.Hex.{lower_digits, is_hex_digit}
use Rattle.t1_grammar.{specs.Grammar.{Grammar, Stops, run, either, all, before, pure, ◌>>=◌}, proofs.Grammars.{bind_read, that_read, run_read}}
use Rattle.t1_bytes.specs.Eexec.{is_blank, blank_comes, digit_value, paired, is_hex_text, hex_or_white, hex_text, hex_cipher, has_four, cipher_text}
use Rattle.t1_bytes.specs.{Texts.{hex_byte, hex_rest, hex_lines, zero_lines, trailer}, Laws.{AreBytes, ReadsHexLines, ReadsBinary}}

-- ---- digits

abbrev low : ℕ → ℕ
low k = get_or lower_digits k 0

low_hex : (k : ℕ) → k < 16 → is_hex_digit (low k) ≡ true
low_hex k h = agree_below_at (λ k. is_hex_digit (low k)) (λ _. true) 16 k refl h

low_value : (k : ℕ) → k < 16 → digit_value (low k) ≡ k
low_value k h = eqb-true (digit_value (low k)) k (agree_below_at (λ k. eqb (digit_value (low k)) k) (λ _. true) 16 k refl h)

low_black : (k : ℕ) → k < 16 → is_blank (low k) ≡ false
low_black k h = agree_below_at (λ k. is_blank (low k)) (λ _. false) 16 k refl h

low_ok : (k : ℕ) → k < 16 → hex_or_white (low k) ≡ true
low_ok k h = rw (low_hex k h) refl

-- ---- lines spell the bytes that they were written from

-- the bytes that the digits of a text spell
abbrev pub spelled : List ℕ → List ℕ
spelled text = paired (filter is_hex_digit text)

byte_again : (b : ℕ) (rest : List ℕ) → b < 256 → spelled (hex_byte b ++ rest) ≡ b ∷ spelled rest
byte_again b rest h =
    let high : b / 16 < 16 = omega arith in
    let down : b % 16 < 16 = omega arith in
    let value : digit_value (low (b / 16)) * 16 + digit_value (low (b % 16)) ≡ b = omega (arith, low_value (b / 16) high, low_value (b % 16) down) in
    rw (low_hex (b / 16) high, low_hex (b % 16) down, value) refl

rest_again : (n : ℕ) (bs more : List ℕ) → AreBytes bs → spelled (hex_rest n bs ++ more) ≡ bs ++ spelled more
rest_again n [] more h = refl
rest_again zero (b ∷ bs) more h = byte_again b (hex_rest 31 bs ++ more) h.0 ∙ ap (λ (u : List ℕ). b ∷ u) (rest_again 31 bs more h.1)
rest_again (suc n) (b ∷ bs) more h = byte_again b (hex_rest n bs ++ more) h.0 ∙ ap (λ (u : List ℕ). b ∷ u) (rest_again n bs more h.1)

-- the digits of lines spell the bytes that the lines were written from
pub lines_again : (bs more : List ℕ) → AreBytes bs → spelled (hex_lines bs ++ more) ≡ bs ++ spelled more
lines_again [] more h = refl
lines_again (b ∷ bs) more h = byte_again b (hex_rest 31 bs ++ more) h.0 ∙ ap (λ (u : List ℕ). b ∷ u) (rest_again 31 bs more h.1)

-- ---- lines are digits and white space

abbrev AreHexOrWhite : List ℕ → Type 0
AreHexOrWhite text = AllByRecursion (λ b. hex_or_white b ≡ true) text

rest_ok : (n : ℕ) (bs : List ℕ) → AreBytes bs → AreHexOrWhite (hex_rest n bs)
rest_ok n [] h = (refl, tt)
rest_ok zero (b ∷ bs) h = (refl, (low_ok (b / 16) (omega (arith, h.0)), (low_ok (b % 16) (omega arith), rest_ok 31 bs h.1)))
rest_ok (suc n) (b ∷ bs) h = (low_ok (b / 16) (omega (arith, h.0)), (low_ok (b % 16) (omega arith), rest_ok n bs h.1))

lines_ok : (bs : List ℕ) → AreBytes bs → AreHexOrWhite (hex_lines bs)
lines_ok [] h = tt
lines_ok (b ∷ bs) h = (low_ok (b / 16) (omega (arith, h.0)), (low_ok (b % 16) (omega arith), rest_ok 31 bs h.1))

both_ok : (a b : List ℕ) → AreHexOrWhite a → AreHexOrWhite b → AreHexOrWhite (a ++ b)
both_ok [] b h k = k
both_ok (x ∷ a) b h k = (h.0, both_ok a b h.1 k)

abbrev all_ok : List ℕ → Bool
all_ok [] = true
all_ok (b ∷ bs) = hex_or_white b && all_ok bs

are_ok : (bs : List ℕ) → all_ok bs ≡ true → AreHexOrWhite bs
are_ok [] h = tt
are_ok (b ∷ bs) h = let both = and_parts (hex_or_white b) (all_ok bs) h in (both.0, are_ok bs both.1)

-- ---- what is read

-- what of the trailer is taken for hexadecimal digits: the zeros and a `c`
abbrev pub zeros : List ℕ
zeros = zero_lines 8 ++ codes "c"

zeros_spell : spelled zeros ≡ replicate 256 0
zeros_spell = refl

either_first : {A : Type 0} (g h : Grammar A) (bytes : List ℕ) (x : A × List ℕ) → g.read bytes ≡ Some x → (either g h).read bytes ≡ Some x
either_first g h bytes x e = rw e refl

either_second : {A : Type 0} (g h : Grammar A) (bytes : List ℕ) → g.read bytes ≡ None → (either g h).read bytes ≡ h.read bytes
either_second g h bytes e = rw e refl

-- no blank stands first
no_blanks : (bytes : List ℕ) → blank_comes bytes ≡ false → Stops is_blank bytes
no_blanks [] e = tt
no_blanks (b ∷ bs) e = e

starts_hex : (a b : ℕ) (rest more : List ℕ) → AreBytes (a ∷ b ∷ rest) → is_hex_text (hex_lines (a ∷ b ∷ rest) ++ more) ≡ true
starts_hex a b rest more h =
    let text : List ℕ = hex_lines (a ∷ b ∷ rest) ++ more in
    let enough : leb 4 (length text) ≡ true = le-leb 4 (length text) (omega arith) in
    rw (enough, low_hex (a / 16) (omega (arith, h.0)), low_hex (a % 16) (omega arith), low_hex (b / 16) (omega (arith, h.1.0)), low_hex (b % 16) (omega arith))
    refl

before_read : (test : List ℕ → Bool) (bytes : List ℕ) → test bytes ≡ true → (before test).read bytes ≡ Some (tt, bytes)
before_read test bytes e = rw e refl

hex_read : (text rest : List ℕ) → is_hex_text (text ++ rest) ≡ true → AreHexOrWhite text → Stops hex_or_white rest →
    hex_cipher.read (text ++ rest) ≡ Some (spelled text, rest)
hex_read text rest starts ok stops =
    bind_read (before is_hex_text) (λ _. run hex_or_white >>= λ digits. pure (paired (filter is_hex_digit digits)))
    (text ++ rest) tt (text ++ rest) _ (before_read is_hex_text (text ++ rest) starts)
    (bind_read (run hex_or_white) (λ digits. pure (paired (filter is_hex_digit digits)))
    (text ++ rest) text rest _ (run_read hex_or_white text rest ok stops) refl)

secret_read : (bytes cipher rest : List ℕ) → blank_comes bytes ≡ false → (either hex_cipher all).read bytes ≡ Some (cipher, rest) → 4 ≤ length cipher →
    cipher_text.read bytes ≡ Some (cipher, rest)
unfolding cipher_text
secret_read bytes cipher rest black e long =
    that_read has_four (run is_blank >>= λ _. either hex_cipher all) bytes cipher rest
    (bind_read (run is_blank) (λ _. either hex_cipher all) bytes [] bytes _ (run_read is_blank [] bytes tt (no_blanks bytes black)) e)
    (le-leb 4 (length cipher) long)

lines_black : (bs more : List ℕ) → AreBytes bs → 4 ≤ length bs → blank_comes (hex_lines bs ++ more) ≡ false
lines_black [] more h long = absurd (omega arith)
lines_black (b ∷ bs) more h long = low_black (b / 16) (omega (arith, h.0))

lines_start : (bs more : List ℕ) → AreBytes bs → 4 ≤ length bs → is_hex_text (hex_lines bs ++ more) ≡ true
lines_start [] more h long = absurd (omega arith)
lines_start (a ∷ []) more h long = absurd (omega arith)
lines_start (a ∷ b ∷ bs) more h long = starts_hex a b bs more h

-- a cipher in lines, the zeros behind it and a `c`
abbrev pub hex_run : List ℕ → List ℕ
hex_run cipher = hex_lines cipher ++ zeros

module _ (cipher rest : List ℕ) (long : 4 ≤ length cipher) (bytes : AreBytes cipher) (stops : Stops hex_or_white rest) where
  run_regrouped : hex_run cipher ++ rest ≡ hex_lines cipher ++ (zeros ++ rest)
  run_regrouped = append_assoc (hex_lines cipher) zeros rest

  run_starts : is_hex_text (hex_run cipher ++ rest) ≡ true
  run_starts = ap is_hex_text run_regrouped ∙ lines_start cipher (zeros ++ rest) bytes long

  run_black : blank_comes (hex_run cipher ++ rest) ≡ false
  run_black = ap blank_comes run_regrouped ∙ lines_black cipher (zeros ++ rest) bytes long

  run_ok : AreHexOrWhite (hex_run cipher)
  run_ok = both_ok (hex_lines cipher) zeros (lines_ok cipher bytes) (are_ok zeros refl)

  -- they are read as the cipher and zeros, before a byte that is neither a digit nor white space
  pub run_secret : cipher_text.read (hex_run cipher ++ rest) ≡ Some (cipher ++ replicate 256 0, rest)
  run_secret =
      let hex : hex_cipher.read (hex_run cipher ++ rest) ≡ Some (cipher ++ replicate 256 0, rest) =
      hex_read (hex_run cipher) rest run_starts run_ok stops ∙ ap (λ (u : List ℕ). Some (u, rest)) (lines_again cipher zeros bytes) in
      secret_read (hex_run cipher ++ rest) (cipher ++ replicate 256 0) rest run_black (either_first hex_cipher all (hex_run cipher ++ rest) _ hex)
      (omega (arith, length-append cipher (replicate 256 0)))

  -- behind a line end they are the digits of a cipher
  pub run_digits : hex_text.read (10 ∷ (hex_run cipher ++ rest)) ≡ Some (hex_run cipher, rest)
  unfolding hex_text
  run_digits =
      let text : List ℕ = hex_run cipher ++ rest in
      bind_read (run is_blank) (λ _. before is_hex_text >>= λ _. run hex_or_white) (10 ∷ text) (10 ∷ []) text _
      (run_read is_blank (10 ∷ []) text (refl, tt) (no_blanks text run_black))
      (bind_read (before is_hex_text) (λ _. run hex_or_white) text tt text _ (before_read is_hex_text text run_starts)
      (run_read hex_or_white (hex_run cipher) rest run_ok stops))

pub lines_read : ReadsHexLines
lines_read cipher long bytes =
    let rest : List ℕ = codes "leartomark" ++ 10 ∷ [] in
    let whole : hex_run cipher ++ rest ≡ hex_lines cipher ++ trailer = append_assoc (hex_lines cipher) zeros rest in
    cipher_text.takes (hex_lines cipher ++ trailer) (cipher ++ replicate 256 0, rest) (ap cipher_text.read (sym whole) ∙ run_secret cipher rest long bytes refl)

pub binary_read : ReadsBinary
binary_read cipher long black plain =
    let absent : hex_cipher.read cipher ≡ None = rw plain refl in
    cipher_text.takes cipher (cipher, []) (secret_read cipher cipher [] black (either_second hex_cipher all cipher absent) long)
