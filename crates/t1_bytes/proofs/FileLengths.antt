-- How long files and their lines are.
use Rattle.std.proofs.{Common.{◌≡◌, ℕ, zero, suc, ◌+◌, ◌-◌, ◌*◌, ◌/◌, ◌≤◌, List, [], ◌∷◌, ◌++◌, length, refl, arith}, lemmas.List.{length-append}}
use Rattle.t1_bytes.specs.{declared.form.Form.TheVariants.{Pfa, Pfb}, Texts.{segment_text, hex_rest, hex_lines, trailer, file_text}}

rest_length : (n : ℕ) (bs : List ℕ) → n ≤ 31 → length (hex_rest n bs) ≡ 2 * length bs + 1 + (length bs - n + 31) / 32
rest_length n [] h = omega (arith, h)
rest_length zero (b ∷ bs) h = omega (arith, rest_length 31 bs (omega arith))
rest_length (suc n) (b ∷ bs) h = omega (arith, rest_length n bs (omega (arith, h)))

-- the lines of bytes: two digits for each byte, and the end of each line
pub lines_length : (bs : List ℕ) → length (hex_lines bs) ≡ 2 * length bs + (length bs + 31) / 32
lines_length [] = omega arith
lines_length (b ∷ bs) = omega (arith, rest_length 31 bs (omega arith))

trailer_length : length trailer ≡ 532
trailer_length = refl

pub pfa_length : (clear cipher : List ℕ) →
    length (file_text Pfa clear cipher) ≡ length clear + (2 * length cipher + (length cipher + 31) / 32) + 532
pfa_length clear cipher = omega (
  arith,
  length-append clear (hex_lines cipher ++ trailer),
  length-append (hex_lines cipher) trailer,
  lines_length cipher,
  trailer_length,
)

-- three segments of six bytes before their texts, and the two bytes of the end
pub pfb_length : (clear cipher : List ℕ) → length (file_text Pfb clear cipher) ≡ length clear + length cipher + 532 + 20
pfb_length clear cipher =
    let t : List ℕ = segment_text 1 trailer ++ (128 ∷ 3 ∷ []) in
    omega (arith, length-append clear (segment_text 2 cipher ++ t), length-append cipher t, trailer_length)
