-- A line that was written is read again.
use Rattle.std.proofs.Common.{◌≡◌, ◌<◌, ◌≤◌, ◌+◌, ◌-◌, ◌*◌, ◌/◌, ◌%◌, ◌^◌, ◌==◌, ◌&&◌, ℕ, refl, sym, ◌∙◌, ap, subst, List, [], ◌∷◌, ◌++◌, length, cond, Bool, true, false, not, None, Some, nat_le}
use Rattle.std.proofs.{Common.{arith, suc, ◌≢◌, eq-eqb, eqb-true}, lemmas.Bool.{le-leb, leb-true, and_from, and_parts, agree_below_at}}
use Rattle.std.proofs.lemmas.Fmt.{decimal_by_steps, length-decimal-le, decimal_nonempty}
use Rattle.std.specs.{Prelude.{option_and_then, slice_index}, Option.{option_map}, Result.{result_ok}, List.{AllByRecursion, list_all}, Fmt.{decimal}}
use Rattle.hex.{specs.Hex.{IsBytes, decode_of, encode_lower, encode_with, lower_digits}, proofs.HexLemmas.{decode_of-encode_lower, length-encode_with}}
use Rattle.t1_join.specs.ListingMeaning.{ends_name, is_listed_name, IsValue}
use Rattle.t1_join.specs.ListingText.{ListedEntry, subr, glyph, with_digit, split_at, number_after, up_to, listed_index, bytes_of, listed_entry, subr_of, glyph_of, listing_lines}
use Rattle.t1_join.specs.LineMeaning.{IsEntry}
use Rattle.t1_join.proofs.SplitLemmas.{lines-split, first_line}

-- no c is in the text
abbrev pub No : ℕ → List ℕ → Type 0
No c xs = AllByRecursion (λ b. (b == c) ≡ false) xs

no_append : (c : ℕ) (xs ys : List ℕ) → No c xs → No c ys → No c (xs ++ ys)
no_append c [] ys h k = k
no_append c (x ∷ xs) ys h k = (h.0, no_append c xs ys h.1 k)

-- a text is split at the first c
pub split_after : (c : ℕ) (xs ys : List ℕ) → No c xs → split_at c (xs ++ c ∷ ys) ≡ Some (xs, ys)
split_after c [] ys h = ap (λ t. cond t (Some ([], ys)) (option_map (with_digit c) (split_at c ys))) (eq-eqb c c refl)
split_after c (b ∷ bs) ys h =
    ap (λ t. cond t (Some ([], bs ++ c ∷ ys)) (option_map (with_digit b) (split_at c (bs ++ c ∷ ys)))) h.0
    ∙ ap (option_map (with_digit b)) (split_after c bs ys h.1)

-- ---- decimals

abbrev AreDigits : List ℕ → Type 0
AreDigits w = AllByRecursion (λ b. (48 ≤ b) × (b ≤ 57)) w

digits_push : (w : List ℕ) (d : ℕ) → AreDigits w → 48 ≤ d → d ≤ 57 → AreDigits (w ++ d ∷ [])
digits_push [] d h low high = ((low, high), tt)
digits_push (b ∷ bs) d h low high = (h.0, digits_push bs d h.1 low high)

is_digit : (d : ℕ) → 48 ≤ d → d ≤ 57 → (nat_le 48 d && nat_le d 57) ≡ true
is_digit d low high = and_from (nat_le 48 d) (nat_le d 57) (le-leb 48 d low) (le-leb d 57 high)

-- one more digit
after_push : (n m : ℕ) (w : List ℕ) (d : ℕ) → AreDigits w → 48 ≤ d → d ≤ 57 → number_after n w ≡ Some m →
    number_after n (w ++ d ∷ []) ≡ Some (m * 10 + (d - 48))
after_push n m [] d h low high e =
    let same : n ≡ m = cc in
    ap (λ t. cond t (Some (n * 10 + (d - 48))) None) (is_digit d low high) ∙ ap (λ k. Some (k * 10 + (d - 48))) same
after_push n m (b ∷ bs) d h low high e =
    let t = is_digit b h.0.0 h.0.1 in
    ap (λ u. cond u (number_after (n * 10 + (b - 48)) (bs ++ d ∷ [])) None) t
    ∙ after_push (n * 10 + (b - 48)) m bs d h.1 low high (sym (ap (λ u. cond u (number_after (n * 10 + (b - 48)) bs) None) t) ∙ e)

-- these digits are the decimal of n
pub record IsNumber (n : ℕ) (w : List ℕ) : Type 0 where
  pub made : AreDigits w
  pub value : number_after 0 w ≡ Some n

one_digit : (n : ℕ) → n < 10 → IsNumber n ((48 + n) ∷ [])
one_digit n h = record {
  made = ((omega arith, omega arith), tt);
  value = ap (λ t. cond t (Some (0 * 10 + (48 + n - 48))) None) (is_digit (48 + n) (omega arith) (omega arith)) ∙ ap Some (omega arith);
}

more_digits : (n : ℕ) (ds : List ℕ) → 10 ≤ n → IsNumber (n / 10) ds → IsNumber n (ds ++ ((48 + n % 10) ∷ []))
more_digits n ds h k = record {
  made = digits_push ds (48 + n % 10) k.made (omega arith) (omega arith);
  value = after_push 0 (n / 10) ds (48 + n % 10) k.made (omega arith) (omega arith) k.value ∙ ap Some (omega arith);
}

number : (n : ℕ) → n < 2 ^ 64 → IsNumber n (decimal n)
number = decimal_by_steps IsNumber one_digit more_digits

no_digit : (c : ℕ) (w : List ℕ) → c < 48 → AreDigits w → No c w
no_digit c [] l h = tt
no_digit c (b ∷ bs) l h = (differs (b == c) refl, no_digit c bs l h.1)
  where
    differs : (t : Bool) → (b == c) ≡ t → (b == c) ≡ false
    differs true e = let same : b ≡ c = eqb-true b c e in let low : 48 ≤ b = h.0.0 in absurd (omega arith)
    differs false e = e

index_read : (i : ℕ) → i < 65535 → listed_index (decimal i) ≡ Some i
index_read i h =
    let n = number i (omega arith) in
    let few : nat_le (length (decimal i)) 5 ≡ true = le-leb (length (decimal i)) 5 (length-decimal-le 5 i (omega arith) (omega arith) (omega arith)) in
    let some : nat_le 1 (length (decimal i)) ≡ true = le-leb 1 (length (decimal i)) (decimal_nonempty i (omega arith)) in
    ap (λ t. cond t (option_and_then (up_to 65534) (number_after 0 (decimal i))) None) (and_from _ _ some few)
    ∙ ap (option_and_then (up_to 65534)) n.value
    ∙ ap (λ t. cond t (Some i) None) (le-leb i 65534 (omega arith))

-- ---- hexadecimal digits

digit_is_no : (c d : ℕ) → c < 48 → c ≢ 0 → d < 16 → (slice_index lower_digits d == c) ≡ false
digit_is_no c d l z h = differs (slice_index lower_digits d == c) refl
  where
    large : nat_le 48 (slice_index lower_digits d) ≡ true
    large = agree_below_at (λ k. nat_le 48 (slice_index lower_digits k)) (λ _. true) 16 d refl h

    differs : (t : Bool) → (slice_index lower_digits d == c) ≡ t → (slice_index lower_digits d == c) ≡ false
    differs true e =
        let same : slice_index lower_digits d ≡ c = eqb-true (slice_index lower_digits d) c e in
        let k : nat_le 48 c ≡ true = subst (λ x. nat_le 48 x ≡ true) same large in
        let low : 48 ≤ c = leb-true 48 c k in
        absurd (omega arith)
    differs false e = e

no_hex : (v : List ℕ) → IsBytes v → No 10 (encode_lower v)
unfolding encode_with
no_hex [] h = tt
no_hex (b ∷ bs) h =
    let small : b < 256 = h 0 in (
      digit_is_no 10 (b / 16) (omega arith) (omega arith) (omega arith),
      (digit_is_no 10 (b % 16) (omega arith) (omega arith) (omega arith), no_hex bs (λ i. h (suc i))),
    )

bytes_read : (v : List ℕ) → IsValue v → bytes_of (encode_lower v) ≡ Some v
bytes_read v h =
    let twice = length-encode_with lower_digits v in
    let short : length v ≤ 65535 = h.short in
    ap (λ t. cond t (result_ok (decode_of (encode_lower v))) None) (le-leb (length (encode_lower v)) 131070 (omega (arith, twice)))
    ∙ ap result_ok (decode_of-encode_lower v h.bytes)

-- ---- names

-- a name has none of the bytes that end names
no_end : (c : ℕ) (name : List ℕ) → ends_name c ≡ true → list_all (λ b. not (ends_name b)) name ≡ true → No c name
no_end c [] e h = tt
no_end c (b ∷ bs) e h =
    let both = and_parts (not (ends_name b)) (list_all (λ x. not (ends_name x)) bs) h in
    (differs (b == c) refl both.0, no_end c bs e both.1)
  where
    differs : (t : Bool) → (b == c) ≡ t → not (ends_name b) ≡ true → (b == c) ≡ false
    differs true k n =
        let same : b ≡ c = eqb-true b c k in
        let ends : ends_name b ≡ true = subst (λ x. ends_name x ≡ true) (sym same) e in
        let never : false ≡ true = sym (ap not ends) ∙ n in
        absurd (false_true never)
      where
        false_true : false ≡ true → ⊥
        false_true e = cc
    differs false k n = k

name_no : (c : ℕ) (name : List ℕ) → ends_name c ≡ true → is_listed_name name ≡ true → No c name
name_no c name e h = no_end c name e (and_parts (nat_le 1 (length name) && nat_le (length name) 127) (list_all (λ b. not (ends_name b)) name) h).1

-- ---- lines

-- what a line says, as text
abbrev pub bare_line : ListedEntry → List ℕ
bare_line (subr i v) = 83 ∷ 32 ∷ (decimal i ++ 32 ∷ encode_lower v)
bare_line (glyph n v) = 71 ∷ 32 ∷ (n ++ 32 ∷ encode_lower v)

-- the line that is written for an entry says this entry
pub entry_read : (e : ListedEntry) → IsEntry e → listed_entry (bare_line e) ≡ Some e
entry_read (subr i v) h =
    ap (option_and_then subr_of) (split_after 32 (decimal i) (encode_lower v) (no_digit 32 (decimal i) (omega arith) (number i (omega (arith, h.0))).made))
    ∙ ap (option_and_then (λ n. option_map (subr n) (bytes_of (encode_lower v)))) (index_read i h.0)
    ∙ ap (option_map (subr i)) (bytes_read v h.1)
entry_read (glyph n v) h =
    ap (option_and_then glyph_of) (split_after 32 n (encode_lower v) (name_no 32 n refl h.0))
    ∙ ap (λ t. option_and_then (λ m. option_map (glyph m) (bytes_of (encode_lower v))) (cond t (Some n) None)) h.0
    ∙ ap (option_map (glyph n)) (bytes_read v h.1)

no_line_feed : (e : ListedEntry) → IsEntry e → No 10 (bare_line e)
no_line_feed (subr i v) h = (
  refl,
  (
    refl,
    no_append 10 (decimal i) (32 ∷ encode_lower v)
        (no_digit 10 (decimal i) (omega arith) (number i (omega (arith, h.0))).made) (refl, no_hex v h.1.bytes),
  ),
)
no_line_feed (glyph n v) h = (refl, (refl, no_append 10 n (32 ∷ encode_lower v) (name_no 10 n refl h.0) (refl, no_hex v h.1.bytes)))

-- the line of an entry comes first
pub line_first : (e : ListedEntry) (rest : List ℕ) → IsEntry e →
    listing_lines (bare_line e ++ 10 ∷ rest) ≡ (bare_line e ∷ (listing_lines rest).0, (listing_lines rest).1)
line_first e rest h = lines-split (bare_line e ++ 10 ∷ rest) ∙ ap (first_line (bare_line e ++ 10 ∷ rest)) (split_after 10 (bare_line e) rest (no_line_feed e h))
