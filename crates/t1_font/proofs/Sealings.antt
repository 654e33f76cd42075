-- A private text whose first bytes are encrypted, and the charstring that is encrypted behind it.
use Rattle.std.proofs.Common.{◌≡◌, ℕ, ◌≤◌, List, ◌++◌, length, take, drop, sym, ap, ◌∙◌, append_assoc, arith}
use Rattle.std.proofs.lemmas.List.{take_at, drop_at, take-append-le, length-append, length-take, length-drop}
use Rattle.t1_bytes.specs.{Cipher.{encrypted, decrypted}, Keys.{key_behind}}
use Rattle.t1_bytes.proofs.{Ciphers.{decrypted-encrypted, encrypted-decrypted, length-encrypted}, Keys.{decrypted-append, key_behind-append}}

-- The bytes are those of a text up to a place, whose cipher up to there has this key behind it, and a charstring's cipher.
module _ (bytes : List ℕ) (done key : ℕ) (within : done ≤ length bytes) (is : key ≡ key_behind 55665 (take done bytes)) where
  abbrev left : List ℕ
  left = drop done bytes

  -- the cipher of all that was there
  abbrev pub whole : List ℕ
  whole = take done bytes ++ encrypted key left

  pub as_long : length whole ≡ length bytes
  as_long = omega (
    arith,
    within,
    length-append (take done bytes) (encrypted key left),
    length-take done bytes,
    length-encrypted left key,
    length-drop done bytes,
  )

  pub key_is : key_behind key (encrypted key left) ≡ key_behind 55665 whole
  key_is = ap (λ (k : ℕ). key_behind k (encrypted key left)) is ∙ sym (key_behind-append (take done bytes) (encrypted key left) 55665)

  pub text_is : decrypted 55665 whole ≡ decrypted 55665 (take done bytes) ++ left
  text_is = decrypted-append (take done bytes) (encrypted key left) 55665
      ∙ ap (λ (r : List ℕ). decrypted 55665 (take done bytes) ++ r)
      (ap (λ (k : ℕ). decrypted k (encrypted key left)) (sym is) ∙ decrypted-encrypted left key)

  -- it is the cipher of the text
  pub cipher_is : whole ≡ encrypted 55665 (decrypted 55665 (take done bytes) ++ left)
  cipher_is = sym (encrypted-decrypted whole 55665) ∙ ap (encrypted 55665) text_is

  -- what stands there once a charstring was put behind it, and both were encrypted
  module _ (body more : List ℕ) (start : ℕ) (put : more ≡ bytes ++ body) (at : start ≡ length bytes) where
    before_is : take start more ≡ bytes
    before_is = ap (take start) put ∙ take_at bytes body start (sym at)

    behind_is : drop start more ≡ body
    behind_is = ap (drop start) put ∙ drop_at bytes body start (sym at)

    first_is : take done more ≡ take done bytes
    first_is = ap (take done) put ∙ take-append-le done bytes body within

    pub new_is : take done more ++ (encrypted key (drop done (take start more)) ++ encrypted 4330 (drop start more)) ≡ whole ++ encrypted 4330 body
    new_is = (λ i. first_is i ++ (encrypted key (drop done (before_is i)) ++ encrypted 4330 (behind_is i)))
        ∙ sym (append_assoc (take done bytes) (encrypted key left) (encrypted 4330 body))

    pub next_is : key_behind key (encrypted key (drop done (take start more))) ≡ key_behind 55665 whole
    next_is = ap (λ (b : List ℕ). key_behind key (encrypted key (drop done b))) before_is ∙ key_is

    module _ (new : List ℕ) (e : new ≡ whole ++ encrypted 4330 body) where
      pub before_new : take start new ≡ whole
      before_new = ap (take start) e ∙ take_at whole (encrypted 4330 body) start (as_long ∙ sym at)

      pub behind_new : drop start new ≡ encrypted 4330 body
      behind_new = ap (drop start) e ∙ drop_at whole (encrypted 4330 body) start (as_long ∙ sym at)

      pub inside_new : start ≤ length new
      inside_new = omega (arith, at, as_long, ap length e, length-append whole (encrypted 4330 body))

      pub text_new : decrypted 55665 (take start new) ++ drop start new ≡ (decrypted 55665 (take done bytes) ++ left) ++ encrypted 4330 body
      text_new = (λ i. decrypted 55665 (before_new i) ++ behind_new i) ∙ ap (λ (t : List ℕ). t ++ encrypted 4330 body) text_is
