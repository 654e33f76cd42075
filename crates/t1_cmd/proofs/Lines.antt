-- Texts of lines, one for each element of a list, as a loop adds them.
use Rattle.std.{proofs.{Common.{◌≡◌, refl, ◌∙◌, ap, sym, append_assoc, ℕ, ◌+◌, ◌/◌, ◌%◌, ◌<◌, ◌≤◌, List, [], ◌∷◌, ◌++◌, length, drop, get_or}, lemmas.List.{append-nil, drop_more, drop_all}}}
use Rattle.std.{proofs.Common.{Bool, true, false, true≢false, ◌&&◌}, specs.{Prelude.{if◌then◌else◌}, List.{flat_map, list_all}}}
use Rattle.t1_join.specs.Shown.{hex_digit, is_plain, shown}

module _ {X : Type 0} (line : X → List ℕ) (xs : List X) (i : ℕ) where
  -- one line more is added
  pub one_line_more : (d : X) (old new : List ℕ) → i < length xs → old ++ flat_map line (drop i xs) ≡ flat_map line xs → new ≡ old ++ line (get_or xs i d) →
      new ++ flat_map line (drop (i + 1) xs) ≡ flat_map line xs
  one_line_more d old new lt so_far more =
      let rest : List ℕ = flat_map line (drop (i + 1) xs) in
      ap (λ (t : List ℕ). t ++ rest) more
      ∙ (append_assoc old (line (get_or xs i d)) rest ∙ (ap (λ (ys : List X). old ++ flat_map line ys) (sym (drop_more xs i d lt)) ∙ so_far))

  -- behind the last, all are there
  pub all_lines : (text : List ℕ) → length xs ≤ i → text ++ flat_map line (drop i xs) ≡ flat_map line xs → text ≡ flat_map line xs
  all_lines text all so_far = sym (append-nil text) ∙ (ap (λ (ys : List X). text ++ flat_map line ys) (sym (drop_all i xs all)) ∙ so_far)

-- bytes that are printed as they stand are what is printed of them
pub plain_shown : (name : List ℕ) → list_all is_plain name ≡ true → shown name ≡ name
plain_shown [] h = refl
plain_shown (b ∷ name) h =
    let two : (is_plain b ≡ true) × (list_all is_plain name ≡ true) = both_true (is_plain b) (list_all is_plain name) h in
    ap (λ (t : Bool). (if t then b ∷ [] else 92 ∷ 120 ∷ hex_digit (b / 16) ∷ hex_digit (b % 16) ∷ []) ++ shown name) two.0
    ∙ ap (λ (t : List ℕ). b ∷ t) (plain_shown name two.1)
  where
    both_true : (x y : Bool) → (x && y) ≡ true → (x ≡ true) × (y ≡ true)
    both_true true y h = (refl, h)
    both_true false y h = absurd (true≢false (sym h))
