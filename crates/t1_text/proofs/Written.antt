-- Words are read as they are written.
use Rattle.std.proofs.{Common.{◌≡◌, ℕ, ◌+◌, ◌-◌, ◌*◌, ◌≤◌, ◌<◌, ◌^◌, ◌%◌, ◌||◌, true, false, leb, List, [], ◌∷◌, ◌++◌, length, Some, refl, ap, ◌∙◌, arith}, lemmas.Slice.Eq.{bytes_eq-Decides}}
use Rattle.std.proofs.{lemmas.Bool.{le-leb, leb-true, and_parts, and_from, or_parts, not-true, agree_below_at}, lemmas.Fmt.{decimal_by_steps, length-decimal-le, decimal_nonempty}}
use Rattle.std.specs.{Prelude.{codes}, Fmt.{decimal as digits}, List.{AllByRecursion, prefix_len}, Str.{bytes_eq}}
use Rattle.t1_grammar.{specs.Grammar.{pure, that, Stops, run, count}, proofs.Grammars.{bind_read, that_read, run_read}}
use Rattle.t1_bytes.specs.White.{is_white, white, has_bytes, gap}
use Rattle.t1_text.specs.{Words.{is_regular, one_white, word, is_word, keyword, decimal, is_delimiter, is_digit, starts_white, is_decimal, all_digits, digits_after}, Entry.{length_from}}

-- one byte of white space is read
pub white_one : (b : ℕ) (rest : List ℕ) → is_white b ≡ true → Stops is_white rest → white.read (b ∷ rest) ≡ Some (b ∷ [], rest)
white_one b rest w s = run_read is_white (b ∷ []) rest (w, tt) s

-- a blank is a gap
pub gap_one : (rest : List ℕ) → Stops is_white rest → gap.read (32 ∷ rest) ≡ Some (32 ∷ [], rest)
unfolding gap
gap_one rest s = that_read has_bytes white (32 ∷ rest) (32 ∷ []) rest (white_one 32 rest refl s) refl

-- none of these bytes is white space or a delimiter
abbrev pub AllRegular : List ℕ → Type 0
AllRegular w = AllByRecursion (λ b. is_regular b ≡ true) w

pub word_read : (w rest : List ℕ) → AllRegular w → is_word w ≡ true → Stops is_regular rest → word.read (w ++ rest) ≡ Some (w, rest)
unfolding word
word_read w rest a t s = that_read is_word (run is_regular) (w ++ rest) w rest (run_read is_regular w rest a s) t

pub keyword_read : (w rest : List ℕ) → AllRegular w → Stops is_regular rest → (keyword w).read (w ++ rest) ≡ Some (w, rest)
unfolding keyword
keyword_read w rest a s = that_read (bytes_eq w) (run is_regular) (w ++ rest) w rest (run_read is_regular w rest a s) ((bytes_eq-Decides w w).1 refl)

-- ---- decimals

regular_black : (b : ℕ) → is_regular b ≡ true → is_white b ≡ false
regular_black b h = (or_parts (is_white b) (is_delimiter b) (not-true (is_white b || is_delimiter b) h)).0

-- the bytes 48 to 57 are regular
agree_at : (b : ℕ) → 48 ≤ b → b ≤ 57 → is_regular b ≡ true
agree_at b low high =
    let e : b ≡ 48 + (b - 48) = omega arith in
    ap is_regular e ∙ agree_below_at (λ k. is_regular (48 + k)) (λ _. true) 10 (b - 48) refl (omega arith)

abbrev AreDigits : List ℕ → Type 0
AreDigits w = AllByRecursion (λ b. is_digit b ≡ true) w

digit_regular : (b : ℕ) → is_digit b ≡ true → is_regular b ≡ true
digit_regular b h = let both = and_parts (leb 48 b) (leb b 57) h in let low : 48 ≤ b = leb-true 48 b both.0 in
    let high : b ≤ 57 = leb-true b 57 both.1 in agree_at b low high

pub digits_regular : (w : List ℕ) → AreDigits w → AllRegular w
digits_regular [] h = tt
digits_regular (b ∷ bs) h = (digit_regular b h.0, digits_regular bs h.1)

are_all : (w : List ℕ) → AreDigits w → all_digits w ≡ true
are_all [] h = refl
are_all (b ∷ bs) h = and_from (is_digit b) (all_digits bs) h.0 (are_all bs h.1)

digits_push : (w : List ℕ) (d : ℕ) → AreDigits w → is_digit d ≡ true → AreDigits (w ++ d ∷ [])
digits_push [] d h k = (k, tt)
digits_push (b ∷ bs) d h k = (h.0, digits_push bs d h.1 k)

after_push : (n : ℕ) (w : List ℕ) (d : ℕ) → digits_after n (w ++ d ∷ []) ≡ digits_after n w * 10 + (d - 48)
after_push n [] d = refl
after_push n (b ∷ bs) d = after_push (n * 10 + (b - 48)) bs d

last_digit : (n : ℕ) → n < 10 → is_digit (48 + n) ≡ true
last_digit n h = and_from (leb 48 (48 + n)) (leb (48 + n) 57) (le-leb 48 (48 + n) (omega arith)) (le-leb (48 + n) 57 (omega arith))

-- these are the digits of n
pub record IsNumber (n : ℕ) (w : List ℕ) : Type 0 where
  pub made : AreDigits w
  pub value : digits_after 0 w ≡ n

pub digits_are : (n : ℕ) → n < 2 ^ 64 → IsNumber n (digits n)
digits_are = decimal_by_steps IsNumber
    (λ n h. record { made = (last_digit n h, tt); value = omega arith })
    (λ n ds h k. record {
      made = digits_push ds (48 + n % 10) k.made (last_digit (n % 10) (omega arith));
      value = after_push 0 ds (48 + n % 10) ∙ omega (arith, k.value);
    })

-- a word begins with no white space
pub black : (w rest : List ℕ) → AllRegular w → 0 < length w → Stops is_white (w ++ rest)
black [] rest a h = absurd (omega arith)
black (b ∷ bs) rest a h = regular_black b a.0

pub decimal_read : (n : ℕ) (rest : List ℕ) → n < 10 ^ 9 → Stops is_regular rest → decimal.read (digits n ++ rest) ≡ Some (n, rest)
unfolding decimal
decimal_read n rest small s =
    let d = digits_are n (omega arith) in
    let few : leb (length (digits n)) 9 ≡ true = le-leb (length (digits n)) 9 (length-decimal-le 9 n (omega arith) small (omega arith)) in
    let some : leb 1 (length (digits n)) ≡ true = le-leb 1 (length (digits n)) (decimal_nonempty n (omega arith)) in
    bind_read (that is_decimal (run is_regular)) (λ w. pure (digits_after 0 w)) (digits n ++ rest) (digits n) rest (Some (n, rest))
    (that_read is_decimal (run is_regular) (digits n ++ rest) (digits n) rest (run_read is_regular (digits n) rest (digits_regular (digits n) d.made) s)
    (and_from _ _ (and_from _ _ some few) (are_all (digits n) d.made))) (rw d.value refl)

-- digits begin with no white space
pub black_digits : (n : ℕ) (rest : List ℕ) → n < 10 ^ 9 → Stops is_white (digits n ++ rest)
black_digits n rest small = black (digits n) rest (digits_regular (digits n) (digits_are n (omega arith)).made) (decimal_nonempty n (omega arith))

pub count_read : (body rest : List ℕ) → (count (length body)).read (body ++ rest) ≡ Some (body, rest)
count_read body rest = (count (length body)).again body body rest (refl, refl)

pub length_read : (iv n : ℕ) (rest : List ℕ) → iv ≤ n → n ≤ 65535 → Stops is_regular rest → (length_from iv).read (digits n ++ rest) ≡ Some (n, rest)
unfolding length_from
length_read iv n rest h k s =
    that_read _ decimal (digits n ++ rest) n rest (decimal_read n rest (omega arith) s) (and_from _ _ (le-leb iv n h) (le-leb n 65535 k))

-- a blank is one byte of white space
pub one_read : (rest : List ℕ) → one_white.read (32 ∷ rest) ≡ Some (32 ∷ [], rest)
unfolding one_white
one_read rest = that_read starts_white (count 1) (32 ∷ rest) (32 ∷ []) rest (count_read (32 ∷ []) rest) refl

-- a word has at least one byte
pub word_has : (w : List ℕ) → is_word w ≡ true → 0 < length w
word_has w h = leb-true 1 (length w) (and_parts (leb 1 (length w)) (leb (length w) 32) h).0

pub dup_regular : AllRegular (codes "dup")
dup_regular = (refl, (refl, (refl, tt)))

-- where no white space stands, none is read
pub no_white : (bytes : List ℕ) → Stops is_white bytes → prefix_len is_white bytes ≡ 0
no_white [] s = refl
no_white (b ∷ bs) s = rw s refl
