-- The two texts of a canonical file fit its segments.
use Rattle.std.{proofs.{Common.{ℕ, ◌≤◌, List, ◌++◌, [], ◌∷◌, length, arith}, lemmas.List.{length-append}}, specs.Int.{bytes_low_first}}
use Rattle.t1_bytes.specs.{declared.form.Form.TheVariants.{Pfb}, Limits.{file_limit}, Cipher.{private_cipher}, Texts.{segment_text, trailer, pfb_text}}
use Rattle.t1_font.{specs.{FontValue.{FontValue}, IsFont.{IsFont}, Canon.{canon_clear, canon_private}}, proofs.canonical.LengthLemmas.{canon_short}}

segment_long : (kind : ℕ) (bytes : List ℕ) → length bytes ≤ length (segment_text kind bytes)
segment_long kind bytes = at_end (128 ∷ kind ∷ []) (bytes_low_first 0 4 (length bytes)) bytes
  where
    at_end : (a l b : List ℕ) → length b ≤ length (a ++ (l ++ b))
    at_end a l b = omega (arith, length-append a (l ++ b), length-append l b)

parts_fit : (clear cipher tail : List ℕ) → (length clear ≤ length (pfb_text clear cipher tail)) × (length cipher ≤ length (pfb_text clear cipher tail))
parts_fit clear cipher tail =
    let rest : List ℕ = segment_text 1 tail ++ (128 ∷ 3 ∷ []) in
    let whole = length-append (segment_text 1 clear) (segment_text 2 cipher ++ rest) in
    let more = length-append (segment_text 2 cipher) rest in
    (omega (arith, whole, segment_long 1 clear), omega (arith, whole, more, segment_long 2 cipher))

-- the canonical clear text is within the file limit
pub clear_fits : (f : FontValue) → IsFont f → length (canon_clear f) ≤ file_limit
clear_fits f is =
    let fits = parts_fit (canon_clear f) (private_cipher (canon_private f)) trailer in
    omega (arith, fits.0, canon_short f Pfb is)

-- the cipher of the canonical private text is within the file limit
pub cipher_fits : (f : FontValue) → IsFont f → length (private_cipher (canon_private f)) ≤ file_limit
cipher_fits f is =
    let fits = parts_fit (canon_clear f) (private_cipher (canon_private f)) trailer in
    omega (arith, fits.1, canon_short f Pfb is)
