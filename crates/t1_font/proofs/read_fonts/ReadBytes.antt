-- What is read of bytes is bytes.
use Rattle.std.proofs.{Common.{ℕ, ◌/◌, ◌<◌, ◌^◌, ◌≤◌, inl, inr, Bool, true, false, leb, List, [], ◌∷◌, ◌++◌, refl, subst, arith}, lemmas.Nat.{xor_lt}}
use Rattle.std.proofs.lemmas.Bool.{cases_Bool, leb-true, agree_below_at}
use Rattle.std.specs.{Prelude.{filter}, List.{AllByRecursion, flat_map}}
use Rattle.t1_bytes.proofs.FlatTexts.{said_flat}
use Rattle.t1_bytes.specs.{Cipher.{next_key, decrypted}, Segments.{segment}, FlatText.{starts_segment, flat_when, IsFlat}, Eexec.{digit_value, paired, cipher_text}, Laws.{AreBytes}}
use Rattle.t1_grammar.specs.{Grammar.{Grammar}, Tables.{Entries}}
use Rattle.t1_text.proofs.Bytes.{AreBytes-append}
use Rattle.t1_text.proofs.Bytes.{parts_bytes}

pub decrypted_bytes : (cs : List ℕ) (key : ℕ) → key < 65536 → AreBytes cs → AreBytes (decrypted key cs)
decrypted_bytes [] key k h = tt
decrypted_bytes (c ∷ cs) key k h =
    let small : key / 256 < 2 ^ 8 = omega arith in
    (xor_lt 8 c (key / 256) h.0 small, decrypted_bytes cs (next_key key c) (omega arith) h.1)

-- ---- tables

-- what holds of each entry that is spelled in bytes holds of the entries of a table
pub entries_have : {A : Type 0} (g : Grammar A) (P : A → Type 0) → ((a : A) (text rest : List ℕ) → g.Spells a text rest → AreBytes text → P a) →
    (xs : List A) (text rest : List ℕ) → Entries g xs text rest → AreBytes text → AllByRecursion P xs
entries_have g P f [] text rest s h = tt
entries_have g P f (a ∷ xs) text rest s h = let k = parts_bytes text s.0 s.1 s.2 h in (f a s.0 (s.1 ++ rest) s.3 k.0, entries_have g P f xs s.1 rest s.4 k.1)

-- ---- the flat text

segment_bytes : (piece text rest : List ℕ) → segment.Spells piece text rest → AreBytes text → AreBytes piece
segment_bytes piece text rest s h =
    let a = parts_bytes text s.1 s.2 s.3 h in
    let b = parts_bytes s.2 s.5.1 s.5.2 s.5.3 a.1 in
    let c = parts_bytes s.5.2 s.5.5.1 s.5.5.2 s.5.5.3 b.1 in
    subst AreBytes s.5.5.5.0 c.1

pieces_bytes : (pieces : List (List ℕ)) → AllByRecursion AreBytes pieces → AreBytes (flat_map (λ piece. piece) pieces)
pieces_bytes [] h = tt
pieces_bytes (p ∷ ps) h = AreBytes-append p (flat_map (λ piece. piece) ps) h.0 (pieces_bytes ps h.1)

-- the flat text of a file of bytes is bytes
pub flat_bytes : (file flat : List ℕ) → IsFlat file flat → AreBytes file → AreBytes flat
flat_bytes file flat s h = by_start (starts_segment file) (said_flat file flat s)
  where
    by_start : (b : Bool) → (flat_when b file).Spells flat → AreBytes flat
    by_start true j =
        let t = j.1.2 in
        let text = parts_bytes file j.1.0 j.0.2 j.1.1 h in
        let front = parts_bytes j.1.0 t.0 t.1 t.2 text.0 in
        subst AreBytes j.2 (pieces_bytes j.0.0 (entries_have segment AreBytes segment_bytes j.0.0 t.0 (t.1 ++ j.0.2) t.3 front.0))
    by_start false e = subst AreBytes e h

-- ---- the cipher

value_small : (b : ℕ) → b < 256 → digit_value b ≤ 15
value_small b h = leb-true (digit_value b) 15 (agree_below_at (λ b. leb (digit_value b) 15) (λ _. true) 256 b refl h)

paired_bytes : (text : List ℕ) → AreBytes text → AreBytes (paired text)
paired_bytes [] h = tt
paired_bytes (a ∷ []) h = tt
paired_bytes (a ∷ b ∷ rest) h = (omega (arith, value_small a h.0, value_small b h.1.0), paired_bytes rest h.1.1)

filter_bytes : (p : ℕ → Bool) (text : List ℕ) → AreBytes text → AreBytes (filter p text)
filter_bytes p [] h = tt
filter_bytes p (b ∷ text) h = elim (cases_Bool (p b)) [
  | inl t ↦ rw t (h.0, filter_bytes p text h.1)
  | inr t ↦ rw t (filter_bytes p text h.1)
]

-- the cipher that bytes spell is bytes
pub cipher_bytes_of : (cipher text rest : List ℕ) → cipher_text.Spells cipher text rest → AreBytes text → AreBytes cipher
unfolding cipher_text
cipher_bytes_of cipher text rest s h =
    let a = parts_bytes text s.0.1 s.0.2 s.0.3 h in
    elim s.0.5 [
      | inl t ↦
          let b = parts_bytes s.0.2 t.1 t.2 t.3 a.1 in
          let c = parts_bytes t.2 t.5.1 t.5.2 t.5.3 b.1 in
          let digits : AreBytes t.5.0 = subst AreBytes t.5.4.0 c.0 in
          subst AreBytes t.5.5.1 (paired_bytes _ (filter_bytes _ t.5.0 digits))
      | inr t ↦ subst AreBytes t.0.0 a.1
    ]
