-- Lines of hexadecimal digits, as the crate `hex` writes them.
use Rattle.std.proofs.{Common.{◌≡◌, ℕ, zero, suc, ◌≤◌, ◌<◌, ◌⊎◌, List, [], ◌∷◌, ◌++◌, length, Result, Ok, refl, ap, ◌∙◌, arith, inl, inr}, lemmas.Bool.{cases_lt}}
use Rattle.std.proofs.lemmas.List.{length-append, append-nil}
use Rattle.std.specs.Prelude.{min}
use Rattle.hex.specs.Hex.{encode_with, encode_lower}
use Rattle.t1_bytes.specs.Texts.{hex_byte, hex_rest, hex_lines}

-- equal successes have equal values
pub same_Ok : {E : Type 0} (x y : List ℕ) → ◌≡◌ {A = Result (List ℕ) E} (Ok x) (Ok y) → x ≡ y
same_Ok x y h = cc

-- ---- lines

-- a line that is full
full_line : (n : ℕ) (line rest : List ℕ) → length line ≡ n → hex_rest n (line ++ rest) ≡ encode_lower line ++ (10 ∷ hex_lines rest)
unfolding encode_with
full_line zero [] [] e = refl
full_line zero [] (b ∷ bs) e = refl
full_line zero (c ∷ cs) rest e = absurd (omega arith)
full_line (suc n) [] rest e = absurd (omega arith)
full_line (suc n) (c ∷ cs) rest e = ap (λ (text : List ℕ). hex_byte c ++ text) (full_line n cs rest (omega arith))

-- the last line, which may be short
last_line : (n : ℕ) (line : List ℕ) → length line ≤ n → hex_rest n line ≡ encode_lower line ++ (10 ∷ [])
unfolding encode_with
last_line n [] e = refl
last_line zero (c ∷ cs) e = absurd (omega arith)
last_line (suc n) (c ∷ cs) e = ap (λ (text : List ℕ). hex_byte c ++ text) (last_line n cs (omega arith))

-- the digits of a line and a line feed come before the lines of the other bytes
pub one_line : (line rest : List ℕ) → 0 < length line → (length line ≡ 32) ⊎ ((length line ≤ 32) × (rest ≡ [])) →
    hex_lines (line ++ rest) ≡ encode_lower line ++ (10 ∷ hex_lines rest)
unfolding encode_with
one_line [] rest h e = absurd (omega arith)
one_line (c ∷ cs) rest h (inl e) = ap (λ (text : List ℕ). hex_byte c ++ text) (full_line 31 cs rest (omega arith))
one_line (c ∷ cs) rest h (inr e) = rw e.1 (ap (λ (text : List ℕ). hex_byte c ++ text) (ap (hex_rest 31) (append-nil cs) ∙ last_line 31 cs (omega (arith, e.0))))

line_or_last : (line rest : List ℕ) → length line ≡ min 32 (length (line ++ rest)) → (length line ≡ 32) ⊎ ((length line ≤ 32) × (rest ≡ []))
line_or_last line [] e = elim (cases_lt (length line) 32) [
  | inl h ↦ inr (omega arith, refl)
  | inr h ↦ inl (omega (arith, length-append line []))
]
line_or_last line (b ∷ bs) e = inl (omega (arith, length-append line (b ∷ bs)))
