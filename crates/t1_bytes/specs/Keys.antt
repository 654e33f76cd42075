-- The keys of many cipher bytes, and the sums of which they can be made at once.
use Rattle.std.specs.Prelude.{ℕ, ◌+◌, ◌%◌, List, [], ◌∷◌}
use Rattle.t1_bytes.specs.Cipher.{next_key}

-- the keys of cipher bytes, one for each
abbrev pub keys_of : ℕ → List ℕ → List ℕ
keys_of key [] = []
keys_of key (cipher ∷ ciphers) = key ∷ keys_of (next_key key cipher) ciphers

-- the key behind cipher bytes
abbrev pub key_behind : ℕ → List ℕ → ℕ
key_behind key [] = key
key_behind key (cipher ∷ ciphers) = key_behind (next_key key cipher) ciphers

-- the sums of numbers up to each of them, on top of a sum, modulo 65536
abbrev pub sums_from : ℕ → List ℕ → List ℕ
sums_from sum [] = []
sums_from sum (n ∷ ns) = (sum + n) % 65536 ∷ sums_from ((sum + n) % 65536) ns
