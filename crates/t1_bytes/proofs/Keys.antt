-- The keys of many cipher bytes without a chain: a key is made of the first key and of the bytes before it, each of them
-- times a weight of its own, times the power of 52845 and on top of the sum that belong to its place, modulo 65536.
use Rattle.std.{proofs.{Common.{◌≡◌, ℕ, zero, suc, ◌+◌, ◌*◌, ◌/◌, ◌%◌, ◌<◌, List, [], ◌∷◌, ◌++◌, length, refl, sym, ap, ◌∙◌, arith}, lemmas.Nat.{mul-mod}}, specs.Prelude.{bit_xor}}
use Rattle.t1_bytes.specs.{Cipher.{next_key, decrypted}, Keys.{keys_of, key_behind}}

-- ---- what a place has, and what its bytes come to

-- the powers of 52845 at n places, from one on
abbrev pub powers : ℕ → ℕ → List ℕ
powers power zero = []
powers power (suc n) = power ∷ powers (power * 52845 % 65536) n

-- the power behind n places
abbrev pub power_behind : ℕ → ℕ → ℕ
power_behind power zero = power
power_behind power (suc n) = power_behind (power * 52845 % 65536) n

-- what the summands come to at n places, from one on
abbrev pub summands : ℕ → ℕ → List ℕ
summands sum zero = []
summands sum (suc n) = sum ∷ summands ((sum * 52845 + 22719) % 65536) n

-- what they come to behind n places
abbrev pub summand_behind : ℕ → ℕ → ℕ
summand_behind sum zero = sum
summand_behind sum (suc n) = summand_behind ((sum * 52845 + 22719) % 65536) n

-- cipher bytes, each times its weight; 27493 times 52845 is 1, modulo 65536
abbrev pub weighed : ℕ → List ℕ → List ℕ
weighed weight [] = []
weighed weight (cipher ∷ ciphers) = cipher * weight % 65536 ∷ weighed (weight * 27493 % 65536) ciphers

-- the sums of numbers before each of them
abbrev pub sums_before : ℕ → List ℕ → List ℕ
sums_before sum [] = []
sums_before sum (n ∷ ns) = sum ∷ sums_before ((sum + n) % 65536) ns

-- the sum of them all
abbrev pub whole_sum : ℕ → List ℕ → ℕ
whole_sum sum [] = sum
whole_sum sum (n ∷ ns) = whole_sum ((sum + n) % 65536) ns

-- the keys that sums give, at places with these powers and summands
abbrev pub keys_by : ℕ → List ℕ → List ℕ → List ℕ → List ℕ
keys_by key [] ps ss = []
keys_by key (sum ∷ sums) [] ss = []
keys_by key (sum ∷ sums) (p ∷ ps) [] = []
keys_by key (sum ∷ sums) (p ∷ ps) (s ∷ ss) = ((key + sum) % 65536 * p % 65536 + s) % 65536 ∷ keys_by key sums ps ss

-- ---- equal modulo 65536

like_mod : (a : ℕ) → a % 65536 % 65536 ≡ a % 65536
like_mod a = omega arith

like_add : (a b c d : ℕ) → a % 65536 ≡ b % 65536 → c % 65536 ≡ d % 65536 → (a + c) % 65536 ≡ (b + d) % 65536
like_add a b c d e f = omega arith

like_mul : (a b c d : ℕ) → a % 65536 ≡ b % 65536 → c % 65536 ≡ d % 65536 → a * c % 65536 ≡ b * d % 65536
like_mul a b c d e f = mul-mod a c 65536 ∙ ((λ i. e i * f i % 65536) ∙ sym (mul-mod b d 65536))

-- a lane's key, with one remainder in place of three
lane : (key sum p s : ℕ) → ((key + sum) % 65536 * p % 65536 + s) % 65536 ≡ ((key + sum) * p + s) % 65536
lane key sum p s =
    like_add ((key + sum) % 65536 * p % 65536) ((key + sum) * p) s s
    (like_mod ((key + sum) % 65536 * p) ∙ like_mul ((key + sum) % 65536) (key + sum) p p (like_mod (key + sum)) refl) refl

-- ---- from a place to the next

-- a place's weight times the power behind it is 52845
next_weight : (w p : ℕ) → w * (p * 52845) % 65536 ≡ 52845 → w * 27493 % 65536 * (p * 52845 % 65536 * 52845) % 65536 ≡ 52845
next_weight w p e =
    let regrouped : w * 27493 * (p * 52845 * 52845) ≡ w * (p * 52845) * (27493 * 52845) = omega arith in
    like_mul (w * 27493 % 65536) (w * 27493) (p * 52845 % 65536 * 52845) (p * 52845 * 52845) (like_mod (w * 27493))
    (like_mul (p * 52845 % 65536) (p * 52845) 52845 52845 (like_mod (p * 52845)) refl)
    ∙ (ap (λ n. n % 65536) regrouped ∙ like_mul (w * (p * 52845)) 52845 (27493 * 52845) 1 e refl)

-- a byte on top of a sum, times the power behind it
with_byte : (key sum c w q t : ℕ) → w * q % 65536 ≡ 52845
    → ((key + sum) * q + (c * 52845 + t)) % 65536 ≡ ((key + (sum + c * w % 65536) % 65536) * (q % 65536) + t % 65536) % 65536
with_byte key sum c w q t one =
    let added = sum + c * w % 65536 in
    let weighs : c * 52845 % 65536 ≡ c * (w * q) % 65536 = sym (like_mul c c (w * q) 52845 refl one) in
    let regrouped : (key + sum) * q + (c * (w * q) + t) ≡ (key + (sum + c * w)) * q + t = omega arith in
    let like : added % 65536 % 65536 ≡ (sum + c * w) % 65536 = like_mod added ∙ like_add sum sum (c * w % 65536) (c * w) refl (like_mod (c * w)) in
    let sums : (key + added % 65536) % 65536 ≡ (key + (sum + c * w)) % 65536 = like_add key key (added % 65536) (sum + c * w) refl like in
    like_add ((key + sum) * q) ((key + sum) * q) (c * 52845 + t) (c * (w * q) + t) refl (like_add (c * 52845) (c * (w * q)) t t weighs refl)
    ∙ (ap (λ n. n % 65536) regrouped
    ∙ sym (like_add ((key + added % 65536) * (q % 65536)) ((key + (sum + c * w)) * q) (t % 65536) t
    (like_mul (key + added % 65536) (key + (sum + c * w)) (q % 65536) q sums (like_mod q)) (like_mod t)))

-- the key behind a byte, by the sum with it
next_by : (key sum c k p s w : ℕ) → k ≡ ((key + sum) * p + s) % 65536 → w * (p * 52845) % 65536 ≡ 52845
    → next_key k c ≡ ((key + (sum + c * w % 65536) % 65536) * (p * 52845 % 65536) + (s * 52845 + 22719) % 65536) % 65536
next_by key sum c k p s w is one =
    let z = (key + sum) * p + s in
    let like : k % 65536 ≡ z % 65536 = ap (λ n. n % 65536) is ∙ like_mod z in
    let times : (c + k) * 52845 % 65536 ≡ (c + z) * 52845 % 65536 = like_mul (c + k) (c + z) 52845 52845 (like_add c c k z refl like) refl in
    let regrouped : (c + z) * 52845 + 22719 ≡ (key + sum) * (p * 52845) + (c * 52845 + (s * 52845 + 22719)) = omega arith in
    like_add ((c + k) * 52845) ((c + z) * 52845) 22719 22719 times refl
    ∙ (ap (λ n. n % 65536) regrouped ∙ with_byte key sum c w (p * 52845) (s * 52845 + 22719) one)

-- ---- the laws

-- the keys of any number of bytes, each without the one before it
pub keys_of-by : (cs : List ℕ) (key sum k p s w : ℕ) → k ≡ ((key + sum) * p + s) % 65536 → w * (p * 52845) % 65536 ≡ 52845
    → keys_of k cs ≡ keys_by key (sums_before sum (weighed w cs)) (powers p (length cs)) (summands s (length cs))
keys_of-by [] key sum k p s w is one = refl
keys_of-by (c ∷ cs) key sum k p s w is one =
    let here : k ≡ ((key + sum) % 65536 * p % 65536 + s) % 65536 = is ∙ sym (lane key sum p s) in
    let rest = keys_of-by cs key ((sum + c * w % 65536) % 65536) (next_key k c) (p * 52845 % 65536) ((s * 52845 + 22719) % 65536) (w * 27493 % 65536)
    (next_by key sum c k p s w is one) (next_weight w p one) in
    λ i. here i ∷ rest i

-- the key behind any number of bytes
pub key_behind-by : (cs : List ℕ) (key sum k p s w : ℕ) → k ≡ ((key + sum) * p + s) % 65536 → w * (p * 52845) % 65536 ≡ 52845
    → key_behind k cs ≡ ((key + whole_sum sum (weighed w cs)) * power_behind p (length cs) + summand_behind s (length cs)) % 65536
key_behind-by [] key sum k p s w is one = is
key_behind-by (c ∷ cs) key sum k p s w is one =
    key_behind-by cs key ((sum + c * w % 65536) % 65536) (next_key k c) (p * 52845 % 65536) ((s * 52845 + 22719) % 65536) (w * 27493 % 65536)
    (next_by key sum c k p s w is one) (next_weight w p one)

-- the first key, at the first place
first_key : (key : ℕ) → key < 65536 → key ≡ ((key + 0) * 1 + 0) % 65536
first_key key small = omega arith

-- the keys of bytes from the first on
pub keys_are : (key : ℕ) → key < 65536 → (cs : List ℕ)
    → keys_of key cs ≡ keys_by key (sums_before 0 (weighed 1 cs)) (powers 1 (length cs)) (summands 0 (length cs))
keys_are key small cs = keys_of-by cs key 0 key 1 0 1 (first_key key small) refl

-- the key behind them
pub key_behind_is : (key : ℕ) → key < 65536 → (cs : List ℕ)
    → key_behind key cs ≡ ((key + whole_sum 0 (weighed 1 cs)) * power_behind 1 (length cs) + summand_behind 0 (length cs)) % 65536
key_behind_is key small cs = key_behind-by cs key 0 key 1 0 1 (first_key key small) refl

-- two parts of a cipher, one behind the other
pub decrypted-append : (xs ys : List ℕ) (key : ℕ) → decrypted key (xs ++ ys) ≡ decrypted key xs ++ decrypted (key_behind key xs) ys
decrypted-append [] ys key = refl
decrypted-append (x ∷ xs) ys key = ap (λ plains. bit_xor x (key / 256) ∷ plains) (decrypted-append xs ys (next_key key x))

-- the key behind two parts of a cipher is the one behind the second, from the key behind the first on
pub key_behind-append : (xs ys : List ℕ) (key : ℕ) → key_behind key (xs ++ ys) ≡ key_behind (key_behind key xs) ys
key_behind-append [] ys key = refl
key_behind-append (x ∷ xs) ys key = key_behind-append xs ys (next_key key x)

-- ---- worked keys

-- the lead bytes of an eexec text, and a letter
row_keys : keys_of 55665 (0xD9 ∷ 0xD6 ∷ 0x6F ∷ 0x63 ∷ 0x3B ∷ []) ≡ 55665 ∷ 54849 ∷ 28554 ∷ 25540 ∷ 24410 ∷ []
row_keys = refl

row_behind : key_behind 55665 (0xD9 ∷ 0xD6 ∷ 0x6F ∷ 0x63 ∷ 0x3B ∷ []) ≡ 61744
row_behind = refl

-- at two places the weights, powers and summands are these
row_tables : weighed 1 (1 ∷ 1 ∷ []) ++ (powers 1 2 ++ summands 0 2) ≡ 1 ∷ 27493 ∷ (1 ∷ 52845 ∷ (0 ∷ 22719 ∷ []))
row_tables = refl
