-- Eight bytes of a cipher in vectors: what the code computes lane by lane is what the laws of `Keys` say of eight bytes.
use Rattle.std.proofs.Common.{◌≡◌, ℕ, ◌+◌, ◌-◌, ◌*◌, ◌/◌, ◌%◌, ◌^◌, ◌<◌, ◌≤◌, List, [], ◌∷◌, ◌++◌, map, length, get_or, take, drop, refl, sym, ap, subst, ◌∙◌, Fits, w8, arith}
use Rattle.std.proofs.{Math.Nat.{mod-add-mod, add-mod-mod}, lemmas.List.{append_assoc, append-nil, length-append, length-take-le, length-drop, take_all, drop_all, drop_at, drop-drop}}
use Rattle.std.proofs.lemmas.Simd.{length-chunk, chunk-drop, take_more_put_chunk, put_chunk_is}
use Rattle.std.specs.Prelude.{bit_xor, replicate}
use Rattle.t1_bytes.{specs.{Cipher.{decrypted}, Keys.{keys_of, key_behind, sums_from}}, proofs.{Ciphers.{length-decrypted}, Keys.{keys_by, keys_are, key_behind_is, decrypted-append}}}
use lib.Lanes.{Each1, zip2, pick_l, chunk, put_chunk}

-- what holds of each list of eight numbers
pub eight_lanes : (P : List ℕ → Type 0) → ((a b c d e f g h : ℕ) → P (a ∷ b ∷ c ∷ d ∷ e ∷ f ∷ g ∷ h ∷ [])) → (xs : List ℕ) → length xs ≡ 8 → P xs
eight_lanes P p (a ∷ b ∷ c ∷ d ∷ e ∷ f ∷ g ∷ h ∷ []) long = p a b c d e f g h
eight_lanes P p [] long = absurd (omega arith)
eight_lanes P p (a ∷ []) long = absurd (omega arith)
eight_lanes P p (a ∷ b ∷ []) long = absurd (omega arith)
eight_lanes P p (a ∷ b ∷ c ∷ []) long = absurd (omega arith)
eight_lanes P p (a ∷ b ∷ c ∷ d ∷ []) long = absurd (omega arith)
eight_lanes P p (a ∷ b ∷ c ∷ d ∷ e ∷ []) long = absurd (omega arith)
eight_lanes P p (a ∷ b ∷ c ∷ d ∷ e ∷ f ∷ []) long = absurd (omega arith)
eight_lanes P p (a ∷ b ∷ c ∷ d ∷ e ∷ f ∷ g ∷ []) long = absurd (omega arith)
eight_lanes P p (a ∷ b ∷ c ∷ d ∷ e ∷ f ∷ g ∷ h ∷ i ∷ xs) long = absurd (omega arith)

-- lanes of 16 bits, added
abbrev lanes_added : List ℕ → List ℕ → List ℕ
lanes_added = zip2 (λ a b. (a + b) % 65536)

-- lanes at other places, and 0 where none is
abbrev lanes_moved : List ℕ → List ℕ → List ℕ
lanes_moved places lanes = pick_l 0 (lanes ++ replicate 8 0) places

-- the steps of the code that adds up eight lanes
abbrev twos : List ℕ → List ℕ
twos lanes = lanes_added lanes (lanes_moved (8 ∷ 0 ∷ 1 ∷ 2 ∷ 3 ∷ 4 ∷ 5 ∷ 6 ∷ []) lanes)

abbrev fours : List ℕ → List ℕ
fours lanes = lanes_added lanes (lanes_moved (8 ∷ 8 ∷ 0 ∷ 1 ∷ 2 ∷ 3 ∷ 4 ∷ 5 ∷ []) lanes)

abbrev eights : List ℕ → List ℕ
eights lanes = lanes_added lanes (lanes_moved (8 ∷ 8 ∷ 8 ∷ 8 ∷ 0 ∷ 1 ∷ 2 ∷ 3 ∷ []) lanes)

sums_of_eight : (a b c d e f g h : ℕ) → let lanes = a ∷ b ∷ c ∷ d ∷ e ∷ f ∷ g ∷ h ∷ [] in eights (fours (twos lanes)) ≡ sums_from 0 lanes
sums_of_eight a b c d e f g h =
    let s0 : a + 0 + 0 + 0 ≡ 0 + a = omega arith in
    let s1 : b + a + 0 + 0 ≡ 0 + a + b = omega arith in
    let s2 : c + b + (a + 0) + 0 ≡ 0 + a + b + c = omega arith in
    let s3 : d + c + (b + a) + 0 ≡ 0 + a + b + c + d = omega arith in
    let s4 : e + d + (c + b) + (a + 0 + 0) ≡ 0 + a + b + c + d + e = omega arith in
    let s5 : f + e + (d + c) + (b + a + 0) ≡ 0 + a + b + c + d + e + f = omega arith in
    let s6 : g + f + (e + d) + (c + b + (a + 0)) ≡ 0 + a + b + c + d + e + f + g = omega arith in
    let s7 : h + g + (f + e) + (d + c + (b + a)) ≡ 0 + a + b + c + d + e + f + g + h = omega arith in
    simp (mod-add-mod, add-mod-mod) (λ i. map (λ n. n % 65536) (s0 i ∷ s1 i ∷ s2 i ∷ s3 i ∷ s4 i ∷ s5 i ∷ s6 i ∷ s7 i ∷ []))

-- sums of two, of four and of eight lanes are the sums up to each
pub sums_scanned : (lanes : List ℕ) → length lanes ≡ 8 → eights (fours (twos lanes)) ≡ sums_from 0 lanes
sums_scanned = eight_lanes (λ lanes. eights (fours (twos lanes)) ≡ sums_from 0 lanes) sums_of_eight

-- the bytes of a block, each times its weight, as code has the weights
abbrev block_weighed : List ℕ → List ℕ
block_weighed block = zip2 (λ a b. a * b % 65536) (map (λ x. x) block) (1 ∷ 27493 ∷ 38361 ∷ 53661 ∷ 20977 ∷ 3861 ∷ 47689 ∷ 461 ∷ [])

-- the keys that code makes of their sums up to each
abbrev block_keys : ℕ → List ℕ → List ℕ
block_keys key sums =
    keys_by key (lanes_moved (8 ∷ 0 ∷ 1 ∷ 2 ∷ 3 ∷ 4 ∷ 5 ∷ 6 ∷ []) sums) (1 ∷ 52845 ∷ 39529 ∷ 15541 ∷ 32529 ∷ 51261 ∷ 22521 ∷ 54021 ∷ [])
    (0 ∷ 22719 ∷ 54290 ∷ 8297 ∷ 41844 ∷ 18723 ∷ 42662 ∷ 57709 ∷ [])

-- they are the keys of the block
pub block_keys_are : (key : ℕ) → key < 65536 → (block sums : List ℕ) → length block ≡ 8 → sums ≡ sums_from 0 (block_weighed block)
    → block_keys key sums ≡ keys_of key block
block_keys_are key small block sums long is =
    ap (block_keys key) is
    ∙ eight_lanes (λ cs. block_keys key (sums_from 0 (block_weighed cs)) ≡ keys_of key cs)
    (λ a b c d e f g h. sym (keys_are key small (a ∷ b ∷ c ∷ d ∷ e ∷ f ∷ g ∷ h ∷ []))) block long

-- and this is the key behind it
pub block_behind_is : (key sum : ℕ) → key < 65536 → (block sums : List ℕ) → length block ≡ 8 → sums ≡ sums_from 0 (block_weighed block)
    → sum ≡ get_or sums 7 sum → ((key + sum) * 57121 + 2600) % 65536 ≡ key_behind key block
block_behind_is key sum small block sums long is last =
    ap (λ s. ((key + s) * 57121 + 2600) % 65536) (last ∙ ap (λ ss. get_or ss 7 sum) is)
    ∙ eight_lanes (λ cs. ((key + get_or (sums_from 0 (block_weighed cs)) 7 sum) * 57121 + 2600) % 65536 ≡ key_behind key cs)
    (λ a b c d e f g h. sym (key_behind_is key small (a ∷ b ∷ c ∷ d ∷ e ∷ f ∷ g ∷ h ∷ []))) block long

-- the upper bytes of eight keys
abbrev upper_bytes : List ℕ → List ℕ
upper_bytes keys = zip2 (λ a b. a / 2 ^ b) keys (8 ∷ 8 ∷ 8 ∷ 8 ∷ 8 ∷ 8 ∷ 8 ∷ 8 ∷ [])

upper_fits : (n : ℕ) → Fits w8 (n % 65536 / 256)
upper_fits n = record { fits = omega arith }

first_fits : (key : ℕ) → key < 65536 → Fits w8 (key / 256)
first_fits key small = record { fits = omega arith }

-- they are bytes
pub upper_bytes_fit : (key : ℕ) → key < 65536 → (block keys : List ℕ) → length block ≡ 8 → keys ≡ keys_of key block → Each1 (Fits w8) (upper_bytes keys)
upper_bytes_fit key small block keys long is =
    subst (λ ks. Each1 (Fits w8) (upper_bytes ks)) (sym is) (eight_lanes (λ cs. Each1 (Fits w8) (upper_bytes (keys_of key cs)))
    (λ a b c d e f g h.
    (first_fits key small, (upper_fits _, (upper_fits _, (upper_fits _, (upper_fits _, (upper_fits _, (upper_fits _, (upper_fits _, tt)))))))))
    block long)

-- and decrypt the block
pub block_plain_is : (key : ℕ) (block keys : List ℕ) → length block ≡ 8 → keys ≡ keys_of key block
    → zip2 bit_xor block (map (λ x. x) (upper_bytes keys)) ≡ decrypted key block
block_plain_is key block keys long is =
    ap (λ ks. zip2 bit_xor block (map (λ x. x) (upper_bytes ks))) is
    ∙ eight_lanes (λ cs. zip2 bit_xor cs (map (λ x. x) (upper_bytes (keys_of key cs))) ≡ decrypted key cs) (λ a b c d e f g h. refl) block long

-- ---- in place

-- a block of a cipher, decrypted where it stands
pub block_decrypted : (bytes plain : List ℕ) (at now behind : ℕ) → at + 8 ≤ length bytes
    → plain ≡ decrypted now (chunk at 8 bytes) → behind ≡ key_behind now (chunk at 8 bytes)
    → take (at + 8) (put_chunk at bytes plain) ++ decrypted behind (drop (at + 8) (put_chunk at bytes plain)) ≡ take at bytes ++ decrypted now (drop at bytes)
block_decrypted bytes plain at now behind room is next =
    let block = chunk at 8 bytes in
    let rest = drop (at + 8) bytes in
    let left = drop (length plain) (drop at bytes) in
    let long : length plain ≡ 8 = ap length is ∙ (length-decrypted block now ∙ length-chunk at 8 bytes room) in
    let size : length (take at bytes ++ plain) ≡ at + 8 = omega (arith, length-append (take at bytes) plain, length-take-le at bytes (omega arith)) in
    let front : take (at + 8) (put_chunk at bytes plain) ≡ take at bytes ++ plain = take_more_put_chunk at bytes plain (at + 8) (omega arith) room in
    let joined : put_chunk at bytes plain ≡ (take at bytes ++ plain) ++ left =
    put_chunk_is at bytes plain (omega arith) ∙ sym (append_assoc (take at bytes) plain left) in
    let same : drop (at + length plain) bytes ≡ rest = ap (λ n. drop (at + n) bytes) long in
    let back : drop (at + 8) (put_chunk at bytes plain) ≡ rest =
    ap (drop (at + 8)) joined ∙ (drop_at (take at bytes ++ plain) left (at + 8) size ∙ (drop-drop (length plain) at bytes ∙ same)) in
    (λ i. front i ++ decrypted (next i) (back i))
    ∙ (append_assoc (take at bytes) plain (decrypted (key_behind now block) rest)
    ∙ ap (λ plains. take at bytes ++ plains) (ap (λ p. p ++ decrypted (key_behind now block) rest) is
    ∙ (sym (decrypted-append block rest now) ∙ ap (decrypted now) (sym (chunk-drop at 8 bytes)))))

-- what is left of a cipher, decrypted where it stands
pub rest_decrypted : (at now : ℕ) (bytes rest whole : List ℕ) → at ≤ length bytes → rest ≡ decrypted now (take (length bytes - at) (drop at bytes))
    → take at bytes ++ decrypted now (drop at bytes) ≡ whole → take at bytes ++ (rest ++ drop (length bytes - at) (drop at bytes)) ≡ whole
rest_decrypted at now bytes rest whole within is all =
    let left = drop at bytes in
    let long : length left ≤ length bytes - at = omega (arith, length-drop at bytes) in
    let plain : rest ≡ decrypted now left = is ∙ ap (decrypted now) (take_all (length bytes - at) left long) in
    let none : drop (length bytes - at) left ≡ [] = drop_all (length bytes - at) left long in
    (λ i. take at bytes ++ (plain i ++ none i)) ∙ (ap (λ plains. take at bytes ++ plains) (append-nil (decrypted now left)) ∙ all)
