-- Counts and tests over what code keeps, as values.
use Rattle.std.proofs.{Common.{◌≡◌, ◌≤◌, ◌<◌, ℕ, ◌+◌, Bool, true, false, cond, List, [], ◌∷◌, map, length, get_or, drop, refl, ap, ◌∙◌, arith}}
use Rattle.std.proofs.lemmas.List.{drop_more, drop_all}
use Rattle.std.specs.{Prelude.{◌||◌}, List.{prefix_len, list_any}}

-- as many values come first that pass a test as things whose values pass it
pub prefix_len-map : {X Y : Type 0} (p : Y → Bool) (f : X → Y) (xs : List X) → prefix_len p (map f xs) ≡ prefix_len (λ x. p (f x)) xs
prefix_len-map p f [] = refl
prefix_len-map p f (x ∷ xs) = ap (λ (n : ℕ). cond (p (f x)) (1 + n) 0) (prefix_len-map p f xs)

-- some value passes a test where some thing's does
pub list_any-map : {X Y : Type 0} (p : Y → Bool) (f : X → Y) (xs : List X) → list_any p (map f xs) ≡ list_any (λ x. p (f x)) xs
list_any-map p f [] = refl
list_any-map p f (x ∷ xs) = ap (λ (b : Bool). p (f x) || b) (list_any-map p f xs)

-- ---- a loop that counts the things that come first and whose values pass a test

-- so many did, and those of the others that come first are left
abbrev pub Counting : {X Y : Type 0} → (Y → Bool) → (X → Y) → List X → ℕ → Type 0
Counting p f xs i = i + prefix_len p (map f (drop i xs)) ≡ prefix_len p (map f xs)

pub count_first : {X Y : Type 0} (p : Y → Bool) (f : X → Y) (xs : List X) → Counting p f xs 0
count_first p f xs = omega arith

-- one that passes is one more
pub count_more : {X Y : Type 0} (p : Y → Bool) (f : X → Y) (xs : List X) (i : ℕ) (d : X) → i < length xs →
    p (f (get_or xs i d)) ≡ true → Counting p f xs i → Counting p f xs (i + 1)
count_more p f xs i d h t was =
    let more : prefix_len p (map f (drop i xs)) ≡ cond (p (f (get_or xs i d))) (1 + prefix_len p (map f (drop (i + 1) xs))) 0 =
    ap (λ ys. prefix_len p (map f ys)) (drop_more xs i d h) in
    let passed : prefix_len p (map f (drop i xs)) ≡ 1 + prefix_len p (map f (drop (i + 1) xs)) =
    more ∙ ap (λ (b : Bool). cond b (1 + prefix_len p (map f (drop (i + 1) xs))) 0) t in
    omega (arith, passed, was)

-- at one that doesn't all are counted
pub count_stop : {X Y : Type 0} (p : Y → Bool) (f : X → Y) (xs : List X) (i : ℕ) (d : X) → i < length xs →
    p (f (get_or xs i d)) ≡ false → Counting p f xs i → i ≡ prefix_len p (map f xs)
count_stop p f xs i d h t was =
    let more : prefix_len p (map f (drop i xs)) ≡ cond (p (f (get_or xs i d))) (1 + prefix_len p (map f (drop (i + 1) xs))) 0 =
    ap (λ ys. prefix_len p (map f ys)) (drop_more xs i d h) in
    let none : prefix_len p (map f (drop i xs)) ≡ 0 = more ∙ ap (λ (b : Bool). cond b (1 + prefix_len p (map f (drop (i + 1) xs))) 0) t in
    omega (arith, none, was)

-- so they are at the end
pub count_last : {X Y : Type 0} (p : Y → Bool) (f : X → Y) (xs : List X) (i : ℕ) → length xs ≤ i → i ≤ length xs →
    Counting p f xs i → length xs ≡ prefix_len p (map f xs)
count_last p f xs i le all was =
    let none : prefix_len p (map f (drop i xs)) ≡ 0 = ap (λ ys. prefix_len p (map f ys)) (drop_all i xs le) in
    omega (arith, none, was)
