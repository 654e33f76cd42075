-- Digits, and the bytes that they spell.
use Rattle.std.proofs.Common.{◌≡◌, ◌↔◌, ◌<◌, ◌+◌, ◌*◌, ◌/◌, ◌%◌, ℕ, refl, sym, ◌∙◌, ap, List, [], ◌∷◌, length, map, cond, Bool, true, false, true≢false, inl, inr, eqb, Option, None, Some, is_some}
use Rattle.std.proofs.{Common.{Result, Ok, Err, nat_le, arith}, lemmas.List.Sums.{AllPass-from_list_all, list_all-from_AllPass}, lemmas.Slice.Eq.{slice_eq-Decides}, lemmas.Bool.Decides.{Decides-eqb}}
use Rattle.std.proofs.lemmas.Bool.{agree_below_at, eqb-true, cases_Bool}
use Rattle.std.specs.{Prelude.{slice_index}, Bool.{IsTrue}, Result.{result_ok, result_unwrap_or}, List.{list_all}, Char.{to_ascii_lowercase}}
use Rattle.hex.specs.{Hex.{IsBytes, lower_digits, encode_with, encode_lower, hex_digit_value, is_hex_digit, digit_or_error, decode_pairs, decode_of, ◌>>=◌}, declared.error.FromHexError.{FromHexError}}
use Rattle.hex.proofs.HexLemmas.{decode_of-even, decode_of-ok, decode_of-digits, decode_of-encode_lower}
use Rattle.t1_join.specs.{Meaning.{same_meaning}, ListingText.{bytes_of, spelled}}

-- ---- digits that spell bytes

-- these digits spell bytes
abbrev pub SpellsBytes : List ℕ → Type 0
SpellsBytes d = is_some (bytes_of d) ≡ true

-- they decode
decodes : (d : List ℕ) → SpellsBytes d → (v : List ℕ) × (decode_of d ≡ Ok v) × (spelled d ≡ v)
decodes d h = by (nat_le (length d) 131070) refl (decode_of d) refl h
  where
    by : (b : Bool) → nat_le (length d) 131070 ≡ b → (r : Result (List ℕ) FromHexError) → decode_of d ≡ r → is_some (cond b (result_ok r) None) ≡ true →
        (v : List ℕ) × (decode_of d ≡ Ok v) × (spelled d ≡ v)
    by true t (Ok v) e h = (v, e, rw (t, e) refl)
    by true t (Err x) e h = cc h
    by false t r e h = cc h

ok_same : (a b : List ℕ) → ◌≡◌ {A = Result (List ℕ) FromHexError} (Ok a) (Ok b) → a ≡ b
ok_same a b h = ap (λ (r : Result (List ℕ) FromHexError). result_unwrap_or r []) h

-- what the crate `hex` decodes is what the digits spell
pub decoded : (d v : List ℕ) → SpellsBytes d → decode_of d ≡ Ok v → v ≡ spelled d
decoded d v h e = let k = decodes d h in ok_same v k.0 (sym e ∙ k.1) ∙ sym k.2

-- ---- which digits do

-- ---- digits in lower case

below : (c v : ℕ) → hex_digit_value c ≡ Some v → c < 103
below c v h = grind (arith)

small : (c v : ℕ) → hex_digit_value c ≡ Some v → v < 16
small c v h = grind (arith)

abbrev again : Option ℕ → ℕ → Bool
again None c = true
again (Some v) c = eqb (slice_index lower_digits v) (to_ascii_lowercase c)

digit_again : (c v : ℕ) → hex_digit_value c ≡ Some v → slice_index lower_digits v ≡ to_ascii_lowercase c
digit_again c v h =
    let all : again (hex_digit_value c) c ≡ true = agree_below_at (λ c. again (hex_digit_value c) c) (λ _. true) 103 c refl (below c v h) in
    eqb-true _ _ (rw h at all)

-- decoded digits in lower case are the digits that encoding gives
lower_again : (i : ℕ) (s bytes : List ℕ) → decode_pairs i s ≡ Ok bytes → map to_ascii_lowercase s ≡ encode_lower bytes
unfolding decode_pairs encode_with
lower_again i [] bytes h = let e : [] ≡ bytes = ok_same [] bytes h in rw (← e) refl
lower_again i (a ∷ []) bytes h = cc h
lower_again i (a ∷ b ∷ rest) bytes h = by (lower_again (i + 2) rest) (hex_digit_value a) (hex_digit_value b) (decode_pairs (i + 2) rest) refl refl refl h
  where
    by : ((more : List ℕ) → decode_pairs (i + 2) rest ≡ Ok more → map to_ascii_lowercase rest ≡ encode_lower more) →
        (x y : Option ℕ) (r : Result (List ℕ) FromHexError) → hex_digit_value a ≡ x → hex_digit_value b ≡ y → decode_pairs (i + 2) rest ≡ r
        → ((digit_or_error a i x >>= λ high. digit_or_error b (i + 1) y >>= λ low. Ok (high * 16 + low)) >>= λ byte. r >>= λ more. Ok (byte ∷ more)) ≡ Ok bytes
        → map to_ascii_lowercase (a ∷ b ∷ rest) ≡ encode_lower bytes
    by ih (Some x) (Some y) (Ok more) p q e k =
        let whole : (x * 16 + y) ∷ more ≡ bytes = ok_same _ bytes k in
        let high : (x * 16 + y) / 16 ≡ x = omega (arith, small b y q) in
        let low : (x * 16 + y) % 16 ≡ y = omega (arith, small b y q) in
        rw (← whole, high, low, digit_again a x p, digit_again b y q, ih more e) refl
    by ih (Some x) (Some y) (Err e) p q r k = cc k
    by ih (Some x) None r p q e k = cc k
    by ih None y r p q e k = cc k

-- the digits of bytes in lower case
pub lowered : (d : List ℕ) → SpellsBytes d → map to_ascii_lowercase d ≡ encode_lower (spelled d)
lowered d h =
    let k = decodes d h in
    let ok = decode_of-ok d k.0 k.1 in
    lower_again 0 d k.0 (sym (decode_of-even d ok.0) ∙ k.1) ∙ ap encode_lower (sym k.2)

spelled_bytes : (d : List ℕ) → SpellsBytes d → IsBytes (spelled d)
spelled_bytes d h = let k = decodes d h in rw k.2 (decode_of-ok d k.0 k.1).3

-- two texts of digits spell the same where they are the same but for the case of letters
pub same_spelled : (a b : List ℕ) → SpellsBytes a → SpellsBytes b → (map to_ascii_lowercase a ≡ map to_ascii_lowercase b) ↔ (spelled a ≡ spelled b)
same_spelled a b h k = (
  λ same.
      let texts : encode_lower (spelled a) ≡ encode_lower (spelled b) = sym (lowered a h) ∙ (same ∙ lowered b k) in
      ok_same (spelled a) (spelled b)
      (sym (decode_of-encode_lower (spelled a) (spelled_bytes a h)) ∙ (ap decode_of texts ∙ decode_of-encode_lower (spelled b) (spelled_bytes b k))),
  λ same. lowered a h ∙ (ap encode_lower same ∙ sym (lowered b k)),
)

same_bool : (r s : Bool) → (r ≡ true → s ≡ true) → (s ≡ true → r ≡ true) → r ≡ s
same_bool true true f g = refl
same_bool true false f g = sym (f refl)
same_bool false true f g = g refl
same_bool false false f g = refl

-- two values are the same exactly where their digits are, without regard to case
pub same_result : (a b v w : List ℕ) (r : Bool) → spelled a ≡ v → spelled b ≡ w → SpellsBytes a →
    SpellsBytes b → (IsTrue r ↔ (map to_ascii_lowercase a ≡ map to_ascii_lowercase b)) → r ≡ same_meaning v w
same_result a b v w r p q h k t =
    let d = slice_eq-Decides Decides-eqb v w (same_meaning v w) refl in
    let s = same_spelled a b h k in
    same_bool r (same_meaning v w) (λ e. d.1 (sym p ∙ (s.0 (t.0 e) ∙ q))) (λ e. t.1 (s.1 (p ∙ (d.0 e ∙ sym q))))

-- ---- which digits spell

-- an even number of bytes, at most 131,070, spells a value exactly where all are digits
pub digits_spell : (d : List ℕ) → nat_le (length d) 131070 ≡ true → length d % 2 ≡ 0 → is_some (bytes_of d) ≡ list_all is_hex_digit d
digits_spell d few even = elim (cases_Bool (list_all is_hex_digit d)) [
  | inl t ↦ let k = decode_of-digits d even (AllPass-from_list_all is_hex_digit d t) in rw (few, k.1, t) refl
  | inr t ↦ by t (decode_of d) refl
]
  where
    by : list_all is_hex_digit d ≡ false → (r : Result (List ℕ) FromHexError) → decode_of d ≡ r → is_some (bytes_of d) ≡ list_all is_hex_digit d
    by t (Ok v) e = absurd (true≢false (sym (list_all-from_AllPass is_hex_digit d (decode_of-ok d v e).1) ∙ t))
    by t (Err x) e = rw (few, e, t) refl
