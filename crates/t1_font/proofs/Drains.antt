-- Lists that a loop makes one by one of another's elements.
use Rattle.std.proofs.{Common.{◌≡◌, sym, ap, ◌∙◌, ℕ, ◌+◌, ◌<◌, ◌≤◌, List, [], ◌∷◌, ◌++◌, map, length, take, take_all, get_or}, lemmas.List.{append_assoc, append-nil, map-append, take_more}}

-- the same key with the same value
pub keyed : {K X : Type 0} {k : K} {x y : X} → x ≡ y → ◌≡◌ {A = K × X} (k, x) (k, y)
keyed {k = k} e = ap (λ v. (k, v)) e

module _ {A B C : Type 0} (f : A → C) (g : B → C) where
  -- one more
  pub one_more : (out more : List B) (xs : List A) (i : ℕ) (d : A) (y : B) → i < length xs → more ≡ out ++ y ∷ [] →
      g y ≡ f (get_or xs i d) → map g out ≡ map f (take i xs) → map g more ≡ map f (take (i + 1) xs)
  one_more out more xs i d y room is same so_far =
      ap (map g) is
      ∙ (map-append g out (y ∷ [])
      ∙ ((λ k. so_far k ++ same k ∷ []) ∙ (sym (map-append f (take i xs) (get_or xs i d ∷ [])) ∙ ap (map f) (sym (take_more xs i d room)))))

  -- and all
  pub all_made : (out : List B) (xs : List A) (i : ℕ) → length xs ≤ i → map g out ≡ map f (take i xs) → map g out ≡ map f xs
  all_made out xs i past so_far = so_far ∙ ap (map f) (take_all i xs past)

-- ---- what an iterator gave, and what it is to give, is all

module _ {A : Type 0} (out xs all : List A) (h : out ++ xs ≡ all) where
  -- one more is given
  pub moved : (more rest : List A) (x : A) → more ≡ out ++ x ∷ [] → xs ≡ x ∷ rest → more ++ rest ≡ all
  moved more rest x is next = ap (λ m. m ++ rest) is ∙ (append_assoc out (x ∷ []) rest ∙ (ap (λ e. out ++ e) (sym next) ∙ h))

  -- and all are
  pub all_moved : xs ≡ [] → out ≡ all
  all_moved none = sym (append-nil out) ∙ (ap (λ e. out ++ e) (sym none) ∙ h)
