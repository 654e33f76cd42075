-- A flat text is no longer than its file, and a cipher is no longer than its flat text.
use Rattle.std.proofs.{Common.{◌≡◌, ℕ, ◌≤◌, suc, inl, inr, Bool, true, false, cond, List, [], ◌∷◌, ◌++◌, length, Ok, ap, arith}, lemmas.List.{length-append}}
use Rattle.std.specs.{Prelude.{filter}, List.{flat_map}}
use Rattle.t1_grammar.specs.Tables.{Entries}
use Rattle.t1_bytes.specs.{Segments.{segment}, FlatText.{starts_segment, flat_when, flat_text, flat_of}, Eexec.{paired, cipher_text}, Split.{IsSplit}}

piece_short : (piece text rest : List ℕ) → segment.Spells piece text rest → length piece ≤ length text
piece_short piece text rest s =
    omega (
      arith,
      ap length s.3,
      length-append s.1 s.2,
      ap length s.5.3,
      length-append s.5.1 s.5.2,
      ap length s.5.5.3,
      length-append s.5.5.1 s.5.5.2,
      ap length s.5.5.5.0,
    )

pieces_short : (pieces : List (List ℕ)) (text rest : List ℕ) → Entries segment pieces text rest → length (flat_map (λ piece. piece) pieces) ≤ length text
pieces_short [] text rest s = omega arith
pieces_short (p ∷ ps) text rest s =
    omega (
      arith,
      ap length s.2,
      length-append s.0 s.1,
      piece_short p s.0 (s.1 ++ rest) s.3,
      length-append p (flat_map (λ piece. piece) ps),
      pieces_short ps s.1 rest s.4,
    )

flat_short : (file flat : List ℕ) → (flat_text file).Spells flat → length flat ≤ length file
flat_short file flat s = by_start (starts_segment file) s
  where
    by_start : (b : Bool) → (flat_when b file).Spells flat → length flat ≤ length file
    by_start true j =
        let t = j.1.2 in
        omega (
          arith,
          ap length j.1.1,
          length-append j.1.0 j.0.2,
          ap length t.2,
          length-append t.0 t.1,
          pieces_short j.0.0 t.0 (t.1 ++ j.0.2) t.3,
          ap length j.2,
        )
    by_start false e = omega (arith, ap length e)

pub flat_no_longer : (file flat : List ℕ) → flat_of file ≡ Ok flat → length flat ≤ length file
flat_no_longer file flat e = flat_short file flat ((flat_text file).takes flat e)

-- ---- the cipher

paired_short : (digits : List ℕ) → length (paired digits) ≤ length digits
paired_short [] = omega arith
paired_short (a ∷ []) = omega arith
paired_short (a ∷ b ∷ rest) = omega (arith, paired_short rest)

filter_short : (p : ℕ → Bool) (text : List ℕ) → length (filter p text) ≤ length text
filter_short p [] = omega arith
filter_short p (b ∷ text) = by_test (p b) (filter_short p text)
  where
    by_test : (t : Bool) → length (filter p text) ≤ length text → length (cond t (b ∷ filter p text) (filter p text)) ≤ suc (length text)
    by_test true h = omega (arith, h)
    by_test false h = omega (arith, h)

digits_short : (p : ℕ → Bool) (text cipher : List ℕ) → paired (filter p text) ≡ cipher → length cipher ≤ length text
digits_short p text cipher is = omega (arith, filter_short p text, paired_short (filter p text), ap length is)

cipher_short : (cipher text rest : List ℕ) → cipher_text.Spells cipher text rest → length cipher ≤ length text
unfolding cipher_text
cipher_short cipher text rest s = elim s.0.5 [
  | inl t ↦
      omega (
        arith,
        ap length s.0.3,
        length-append s.0.1 s.0.2,
        ap length t.3,
        length-append t.1 t.2,
        ap length t.5.3,
        length-append t.5.1 t.5.2,
        ap length t.5.4.0,
        digits_short _ t.5.0 cipher t.5.5.1,
      )
  | inr t ↦ omega (arith, ap length s.0.3, length-append s.0.1 s.0.2, ap length t.0.0)
]

pub split_no_longer : (flat : List ℕ) (at : ℕ) (cipher : List ℕ) → IsSplit flat at cipher → length cipher ≤ length flat
split_no_longer flat at cipher s =
    let secret = s.secret in
    let short = cipher_short cipher secret.0 s.rest secret.2 in
    omega (arith, ap length s.parts, length-append s.clear s.after, ap length secret.1, length-append secret.0 s.rest, short)
