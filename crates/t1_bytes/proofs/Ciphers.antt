-- Encryption and decryption are the two directions of one relation.
use Rattle.std.proofs.Common.{◌≡◌, ◌↔◌, ℕ, zero, suc, ◌+◌, ◌*◌, ◌/◌, ◌%◌, ◌<◌, ◌^◌, List, [], ◌∷◌, ◌++◌, length, get_or, set, take, drop, refl, sym, ap, subst, ◌∙◌, slice_set, slice_index_or, arith}
use Rattle.std.proofs.{lemmas.List.{take_at, drop_at, length-append, length-replicate}, lemmas.Nat.{xor_lt}}
use Rattle.std.specs.{Prelude.{bit_xor, replicate}, Int.Bits.{xor_assoc, xor_self, xor_zero_r}}
use Rattle.t1_bytes.specs.{Keys.{key_behind}, Cipher.{next_key, Enciphers, encrypted, decrypted, sealed, opened, plain_of}, Laws.{AreBytes}}

pub Enciphers-encrypted : (plains : List ℕ) (key : ℕ) → Enciphers key plains (encrypted key plains)
Enciphers-encrypted [] key = tt
Enciphers-encrypted (p ∷ ps) key = (refl, Enciphers-encrypted ps (next_key key (bit_xor p (key / 256))))

pub xor_twice : (a k : ℕ) → bit_xor (bit_xor a k) k ≡ a
xor_twice a k = xor_assoc a k k ∙ (ap (bit_xor a) (xor_self k) ∙ xor_zero_r a)

pub Enciphers-decrypted : (ciphers : List ℕ) (key : ℕ) → Enciphers key (decrypted key ciphers) ciphers
Enciphers-decrypted [] key = tt
Enciphers-decrypted (c ∷ cs) key = (sym (xor_twice c (key / 256)), Enciphers-decrypted cs (next_key key c))

-- the plain bytes of a cipher are one
pub decrypted-is : (plains ciphers : List ℕ) (key : ℕ) → Enciphers key plains ciphers → decrypted key ciphers ≡ plains
decrypted-is [] [] key s = refl
decrypted-is [] (c ∷ cs) key s = absurd s
decrypted-is (p ∷ ps) [] key s = absurd s
decrypted-is (p ∷ ps) (c ∷ cs) key s =
    let head : bit_xor c (key / 256) ≡ p = ap (λ (b : ℕ). bit_xor b (key / 256)) s.0 ∙ xor_twice p (key / 256) in
    let tail : decrypted (next_key key c) cs ≡ ps = decrypted-is ps cs (next_key key c) s.1 in
    λ i. head i ∷ tail i

-- the cipher of plain bytes is one
pub encrypted-is : (plains ciphers : List ℕ) (key : ℕ) → Enciphers key plains ciphers → encrypted key plains ≡ ciphers
encrypted-is [] [] key s = refl
encrypted-is [] (c ∷ cs) key s = absurd s
encrypted-is (p ∷ ps) [] key s = absurd s
encrypted-is (p ∷ ps) (c ∷ cs) key s =
    ap (λ (b : ℕ). b ∷ encrypted (next_key key b) ps) (sym s.0) ∙ ap (λ (bytes : List ℕ). c ∷ bytes) (encrypted-is ps cs (next_key key c) s.1)

-- plain bytes have one cipher under a key, their encryption
pub is_encrypted : (plains ciphers : List ℕ) (key : ℕ) → Enciphers key plains ciphers ↔ (encrypted key plains ≡ ciphers)
is_encrypted plains ciphers key = (encrypted-is plains ciphers key, λ e. subst (Enciphers key plains) e (Enciphers-encrypted plains key))

-- a cipher has one plain text under a key, its decryption
pub is_decrypted : (plains ciphers : List ℕ) (key : ℕ) → Enciphers key plains ciphers ↔ (decrypted key ciphers ≡ plains)
is_decrypted plains ciphers key = (decrypted-is plains ciphers key, λ e. subst (λ (p : List ℕ). Enciphers key p ciphers) e (Enciphers-decrypted ciphers key))

pub decrypted-encrypted : (plains : List ℕ) (key : ℕ) → decrypted key (encrypted key plains) ≡ plains
decrypted-encrypted plains key = decrypted-is plains (encrypted key plains) key (Enciphers-encrypted plains key)

pub encrypted-decrypted : (ciphers : List ℕ) (key : ℕ) → encrypted key (decrypted key ciphers) ≡ ciphers
encrypted-decrypted ciphers key = encrypted-is (decrypted key ciphers) ciphers key (Enciphers-decrypted ciphers key)

-- more bytes after a cipher don't change what it decrypts to
pub decrypted_front : (plain : List ℕ) (key : ℕ) (more : List ℕ) → (after : List ℕ) × (decrypted key (encrypted key plain ++ more) ≡ plain ++ after)
decrypted_front [] key more = (decrypted key more, refl)
decrypted_front (p ∷ plain) key more =
    let c = bit_xor p (key / 256) in
    let r = decrypted_front plain (next_key key c) more in
    (r.0, λ i. xor_twice p (key / 256) i ∷ r.1 i)

pub length-decrypted : (ciphers : List ℕ) (key : ℕ) → length (decrypted key ciphers) ≡ length ciphers
length-decrypted [] key = refl
length-decrypted (c ∷ cs) key = ap suc (length-decrypted cs (next_key key c))

pub length-encrypted : (plains : List ℕ) (key : ℕ) → length (encrypted key plains) ≡ length plains
length-encrypted [] key = refl
length-encrypted (p ∷ ps) key = ap suc (length-encrypted ps (next_key key (bit_xor p (key / 256))))

-- the cipher of bytes is bytes
pub encrypted_bytes : (plains : List ℕ) (key : ℕ) → key < 65536 → AreBytes plains → AreBytes (encrypted key plains)
encrypted_bytes [] key k h = tt
encrypted_bytes (p ∷ ps) key k h =
    let c = bit_xor p (key / 256) in
    let small : key / 256 < 2 ^ 8 = omega arith in
    (xor_lt 8 p (key / 256) h.0 small, encrypted_bytes ps (next_key key c) (omega arith) h.1)

-- a byte encrypted where it stands, by a number whose remainder is its key, and the next such number
pub byte_encrypted : (bytes : List ℕ) (i now next cipher : ℕ) → i < length bytes → cipher ≡ bit_xor (get_or bytes i 0) (now % 65536 / 256)
    → next % 65536 ≡ next_key (now % 65536) cipher
    → take (suc i) (set bytes i cipher) ++ encrypted (next % 65536) (drop (suc i) (set bytes i cipher)) ≡ take i bytes ++ encrypted (now % 65536) (drop i bytes)
byte_encrypted [] i now next cipher lt is key = absurd (omega (arith, lt))
byte_encrypted (b ∷ bytes) zero now next cipher lt is key =
    let k : next % 65536 ≡ next_key (now % 65536) (bit_xor b (now % 65536 / 256)) = key ∙ ap (next_key (now % 65536)) is in
    λ j. is j ∷ encrypted (k j) bytes
byte_encrypted (b ∷ bytes) (suc i) now next cipher lt is key =
    ap (λ (rest : List ℕ). b ∷ rest) (byte_encrypted bytes i now next cipher (omega (arith, lt)) is key)

-- and the key behind the cipher of what is left is the same as before
pub key_passed : (bytes : List ℕ) (i now next cipher : ℕ) → i < length bytes → cipher ≡ bit_xor (get_or bytes i 0) (now % 65536 / 256)
    → next % 65536 ≡ next_key (now % 65536) cipher
    → key_behind (next % 65536) (encrypted (next % 65536) (drop (suc i) (set bytes i cipher)))
    ≡ key_behind (now % 65536) (encrypted (now % 65536) (drop i bytes))
key_passed [] i now next cipher lt is key = absurd (omega (arith, lt))
key_passed (b ∷ bytes) zero now next cipher lt is key =
    let k : next % 65536 ≡ next_key (now % 65536) (bit_xor b (now % 65536 / 256)) = key ∙ ap (next_key (now % 65536)) is in
    λ j. key_behind (k j) (encrypted (k j) bytes)
key_passed (b ∷ bytes) (suc i) now next cipher lt is key = key_passed bytes i now next cipher (omega (arith, lt)) is key

-- the remainder of the next such number, from that of what is carried ahead of the cipher byte
pub carried : (now ahead next cipher : ℕ) → ahead % 65536 ≡ (now * 52845 + 22719) % 65536 → next % 65536 ≡ (cipher * 52845 + ahead) % 65536
    → next % 65536 ≡ next_key (now % 65536) cipher
carried now ahead next cipher a b = omega arith

-- the last byte of a cipher is decrypted by the key that stands before it
pub last_byte : (bytes : List ℕ) (at now : ℕ) → at + 1 ≡ length bytes →
    take at bytes ++ decrypted now (drop at bytes) ≡ slice_set bytes at (bit_xor (slice_index_or bytes at 0) (now / 256))
last_byte [] zero now e = absurd (omega (arith, e))
last_byte [] (suc at) now e = absurd (omega (arith, e))
last_byte (b ∷ []) zero now e = refl
last_byte (b ∷ c ∷ bytes) zero now e = absurd (omega (arith, e))
last_byte (b ∷ bytes) (suc at) now e = ap (λ (rest : List ℕ). b ∷ rest) (last_byte bytes at now (omega (arith, e)))

-- ---- lead bytes

pub length-sealed : (key lead : ℕ) (text : List ℕ) → length (sealed key lead text) ≡ lead + length text
length-sealed key lead text =
    omega (arith, length-encrypted (replicate lead 0 ++ text) key, length-append (replicate lead 0) text, length-replicate {A = ℕ} lead 0)

zeros_bytes : (n : ℕ) (bytes : List ℕ) → AreBytes bytes → AreBytes (replicate n 0 ++ bytes)
zeros_bytes zero bytes h = h
zeros_bytes (suc n) bytes h = (omega arith, zeros_bytes n bytes h)

-- what is sealed is bytes
pub sealed_bytes : (key lead : ℕ) (text : List ℕ) → key < 65536 → AreBytes text → AreBytes (sealed key lead text)
sealed_bytes key lead text k h = encrypted_bytes (replicate lead 0 ++ text) key k (zeros_bytes lead text h)

pub opened-sealed : (key lead : ℕ) (text : List ℕ) → opened key lead (sealed key lead text) ≡ text
opened-sealed key lead text =
    ap (drop lead) (decrypted-encrypted (replicate lead 0 ++ text) key) ∙ drop_at (replicate lead 0) text lead (length-replicate {A = ℕ} lead 0)

-- what stands in a buffer of len bytes, all of them encrypted in place
pub encrypted_whole : (key lead len : ℕ) (text bytes written : List ℕ) → bytes ≡ replicate lead 0 ++ text → written ≡ encrypted key bytes → len ≡ length bytes →
    take len (written ++ drop (length written) bytes) ≡ sealed key lead text
encrypted_whole key lead len text bytes written is e size =
    let same : length written ≡ len = omega (arith, ap length e, length-encrypted bytes key, size) in
    take_at written (drop (length written) bytes) len same ∙ (e ∙ ap (encrypted key) is)

-- ---- worked bytes

-- the first lead bytes and a letter of an eexec text
row_eexec : encrypted 55665 (0 ∷ 0 ∷ 0 ∷ 0 ∷ 100 ∷ []) ≡ 0xD9 ∷ 0xD6 ∷ 0x6F ∷ 0x63 ∷ 0x3B ∷ []
row_eexec = refl

row_eexec_again : decrypted 55665 (0xD9 ∷ 0xD6 ∷ 0x6F ∷ 0x63 ∷ 0x3B ∷ []) ≡ 0 ∷ 0 ∷ 0 ∷ 0 ∷ 100 ∷ []
row_eexec_again = refl

-- the charstring `return`
row_return : sealed 4330 4 (11 ∷ []) ≡ 0x10 ∷ 0xBF ∷ 0x31 ∷ 0x70 ∷ 0xF9 ∷ []
row_return = refl

row_return_bare : sealed 4330 0 (11 ∷ []) ≡ 0x1B ∷ []
row_return_bare = refl

-- the charstring `0 250 hsbw endchar`
row_endchar : sealed 4330 4 (0x8B ∷ 0xF7 ∷ 0x8E ∷ 0x0D ∷ 0x0E ∷ []) ≡ 0x10 ∷ 0xBF ∷ 0x31 ∷ 0x70 ∷ 0x79 ∷ 0xC7 ∷ 0x57 ∷ 0xBF ∷ 0x91 ∷ []
row_endchar = refl

row_endchar_again : plain_of 4 (0x10 ∷ 0xBF ∷ 0x31 ∷ 0x70 ∷ 0x79 ∷ 0xC7 ∷ 0x57 ∷ 0xBF ∷ 0x91 ∷ []) ≡ 0x8B ∷ 0xF7 ∷ 0x8E ∷ 0x0D ∷ 0x0E ∷ []
row_endchar_again = refl
