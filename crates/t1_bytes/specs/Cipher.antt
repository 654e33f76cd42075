-- The cipher of eexec and of charstrings: each key is made of the one before and the cipher byte (Adobe Type 1 Font Format 1.1, chapter 7).
use Rattle.std.specs.Prelude.{◌≡◌, ℕ, ◌+◌, ◌*◌, ◌/◌, ◌%◌, List, [], ◌∷◌, ◌++◌, drop, replicate, bit_xor}

-- the key after a cipher byte
abbrev pub next_key : ℕ → ℕ → ℕ
next_key key cipher = ((cipher + key) * 52845 + 22719) % 65536

-- plain bytes and their cipher, one byte for each, under a key
abbrev pub Enciphers : ℕ → List ℕ → List ℕ → Type 0
Enciphers key [] [] = Unit {0}
Enciphers key (plain ∷ plains) (cipher ∷ ciphers) = (cipher ≡ bit_xor plain (key / 256)) × Enciphers (next_key key cipher) plains ciphers
Enciphers key [] (cipher ∷ ciphers) = ⊥
Enciphers key (plain ∷ plains) [] = ⊥

-- the cipher of plain bytes
abbrev pub encrypted : ℕ → List ℕ → List ℕ
encrypted key [] = []
encrypted key (plain ∷ plains) = bit_xor plain (key / 256) ∷ encrypted (next_key key (bit_xor plain (key / 256))) plains

-- the plain bytes of a cipher
abbrev pub decrypted : ℕ → List ℕ → List ℕ
decrypted key [] = []
decrypted key (cipher ∷ ciphers) = bit_xor cipher (key / 256) ∷ decrypted (next_key key cipher) ciphers

-- ---- with lead bytes

-- the cipher of a text after lead bytes that are zero
abbrev pub sealed : ℕ → ℕ → List ℕ → List ℕ
sealed key lead text = encrypted key (replicate lead 0 ++ text)

-- the text of a cipher, without its lead bytes
abbrev pub opened : ℕ → ℕ → List ℕ → List ℕ
opened key lead cipher = drop lead (decrypted key cipher)

-- the private text of the cipher after `eexec`: key 55665 and 4 lead bytes
abbrev pub private_text : List ℕ → List ℕ
private_text cipher = opened 55665 4 cipher

-- the cipher of a private text, its lead bytes zero
abbrev pub private_cipher : List ℕ → List ℕ
private_cipher text = sealed 55665 4 text

-- the plain charstring of an encrypted one: key 4330 and lenIV lead bytes
abbrev pub plain_of : ℕ → List ℕ → List ℕ
plain_of len_iv cipher = opened 4330 len_iv cipher
