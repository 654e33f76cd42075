-- Files are fitted onto a group by halves.
use Rattle.std.proofs.Common.{◌≡◌, ◌<◌, ◌≤◌, ◌/◌, ℕ, zero, suc, Bool, true, false, nat_le, List, [], ◌∷◌, ◌++◌, length, take, drop, refl, sym, ap, ◌∙◌, arith}
use Rattle.std.proofs.{lemmas.Bool.{leb-false, le-leb}, lemmas.List.{length-take, length-drop, take-map, drop-map, length-map, append-nil}}
use Rattle.std.specs.{Borrow.{Bor}}
use Rattle.t1_classes.specs.{Partition.{File, Fit, halves_fitted, fitted_by, fitted}, Views.{lent}}

length_zero : {X : Type 0} (xs : List X) → length xs ≡ 0 → xs ≡ []
length_zero [] e = refl
length_zero (x ∷ xs) e = absurd (omega (arith, e))

module _ (joins : List File → Bool) where
  -- what comes of the halves, with n steps
  abbrev halves : ℕ → List File → List File → Fit
  halves n g fs = halves_fitted (fitted joins n) g fs

  -- no files leave a group as it is
  pub none_fitted : (n : ℕ) (g : List File) → record { group = g; left = [] } ≡ fitted joins n g []
  unfolding fitted
  none_fitted zero g = refl
  none_fitted (suc n) g = by_test (joins (g ++ []))
    where
      by_test : (b : Bool) → record { group = g; left = [] } ≡ fitted_by b true g [] (halves n g [])
      by_test true = λ i. record { group = sym (append-nil g) i; left = [] }
      by_test false = refl

  -- files that join with a group are all in it
  pub all_fitted : (n : ℕ) (g fs : List File) → 0 < length fs → length fs ≤ n → joins (g ++ fs) ≡ true →
      record { group = g ++ fs; left = [] } ≡ fitted joins n g fs
  unfolding fitted
  all_fitted zero g fs some short e = absurd (omega (arith, some, short))
  all_fitted (suc n) g fs some short e = sym (ap (λ (b : Bool). fitted_by b (nat_le (length fs) 1) g fs (halves n g fs)) e)

  -- one file that doesn't is left over
  pub one_left : (n : ℕ) (g fs : List File) → nat_le (length fs) 1 ≡ true → joins (g ++ fs) ≡ false → record { group = g; left = fs } ≡ fitted joins n g fs
  unfolding fitted
  one_left zero g fs one e = refl
  one_left (suc n) g fs one e = sym (λ i. fitted_by (e i) (one i) g fs (halves n g fs))

  -- of several that don't, the halves are fitted in turn
  pub halves_left : (n : ℕ) (g fs : List File) (a b : Fit) → length fs ≤ n → nat_le (length fs) 1 ≡ false → joins (g ++ fs) ≡ false →
      ((m : ℕ) → length (take (length fs / 2) fs) ≤ m → a ≡ fitted joins m g (take (length fs / 2) fs)) →
      ((m : ℕ) → length (drop (length fs / 2) fs) ≤ m → b ≡ fitted joins m a.group (drop (length fs / 2) fs)) →
      record { group = b.group; left = a.left ++ b.left } ≡ fitted joins n g fs
  unfolding fitted
  halves_left zero g fs a b short several e first second = absurd (omega (arith, short, leb-false (length fs) 1 several))
  halves_left (suc n) g fs a b short several e first second =
      let many : 1 < length fs = leb-false (length fs) 1 several in
      let one : a ≡ fitted joins n g (take (length fs / 2) fs) = first n (omega (arith, short, many, length-take (length fs / 2) fs)) in
      let other : b ≡ fitted joins n (fitted joins n g (take (length fs / 2) fs)).group (drop (length fs / 2) fs) =
      second n (omega (arith, short, many, length-drop (length fs / 2) fs))
      ∙ ap (λ (h : Fit). fitted joins n h.group (drop (length fs / 2) fs)) one in
      (λ i. record { group = (other i).group; left = (one i).left ++ (other i).left }) ∙ sym (λ i. fitted_by (e i) (several i) g fs (halves n g fs))

module _ (joins : List File → Bool) (n : ℕ) (g xs : List (Bor (List ℕ))) (short : length xs ≤ n) where
  long : length (lent xs) ≡ length xs
  long = length-map xs (λ f. f.now)

  -- the same of files that are lent
  pub none_lent : length xs ≡ 0 → record { group = lent g; left = [] } ≡ fitted joins n (lent g) (lent xs)
  none_lent e = none_fitted joins n (lent g) ∙ ap (λ (fs : List (Bor (List ℕ))). fitted joins n (lent g) (lent fs)) (sym (length_zero xs e))

  pub all_lent : (ys : List File) (b : Bool) → 0 < length xs → ys ≡ lent g ++ lent xs → b ≡ joins ys → b ≡ true →
      record { group = ys; left = [] } ≡ fitted joins n (lent g) (lent xs)
  all_lent ys b some is e t =
      (λ i. record { group = is i; left = [] })
      ∙ all_fitted joins n (lent g) (lent xs) (omega (arith, long, some)) (omega (arith, long, short)) (ap joins (sym is) ∙ sym e ∙ t)

  pub one_lent : (ys : List File) (b : Bool) → length xs ≤ 1 → ys ≡ lent g ++ lent xs → b ≡ joins ys → b ≡ false →
      record { group = lent g; left = lent xs } ≡ fitted joins n (lent g) (lent xs)
  one_lent ys b one is e f = one_left joins n (lent g) (lent xs) (le-leb (length (lent xs)) 1 (omega (arith, long, one))) (ap joins (sym is) ∙ sym e ∙ f)

  pub halves_lent : (ys : List File) (b : Bool) (first second : Fit) (front back : List (Bor (List ℕ))) → 1 < length xs → ys ≡ lent g ++ lent xs →
      b ≡ joins ys → b ≡ false → front ≡ take (length xs / 2) xs → back ≡ drop (length xs / 2) xs →
      ((m : ℕ) → length front ≤ m → first ≡ fitted joins m (lent g) (lent front)) →
      ((m : ℕ) → length back ≤ m → second ≡ fitted joins m first.group (lent back)) →
      record { group = second.group; left = first.left ++ second.left } ≡ fitted joins n (lent g) (lent xs)
  halves_lent ys b first second front back many is e f at-front at-back one other =
      let half : length (lent xs) / 2 ≡ length xs / 2 = ap (λ (k : ℕ). k / 2) long in
      let fronts : take (length (lent xs) / 2) (lent xs) ≡ lent front =
      ap (λ (k : ℕ). take k (lent xs)) half ∙ (take-map (λ f. f.now) (length xs / 2) xs ∙ ap lent (sym at-front)) in
      let backs : drop (length (lent xs) / 2) (lent xs) ≡ lent back =
      ap (λ (k : ℕ). drop k (lent xs)) half ∙ (drop-map (λ f. f.now) (length xs / 2) xs ∙ ap lent (sym at-back)) in
      halves_left joins n (lent g) (lent xs) first second (omega (arith, long, short)) (lt-leb_false (length (lent xs)) 1 (omega (arith, long, many)))
      (ap joins (sym is) ∙ sym e ∙ f)
      (λ m le. one m (omega (arith, le, ap length fronts, length-map front (λ f. f.now)))
      ∙ ap (λ (fs : List File). fitted joins m (lent g) fs) (sym fronts))
      (λ m le. other m (omega (arith, le, ap length backs, length-map back (λ f. f.now)))
      ∙ ap (λ (fs : List File). fitted joins m first.group fs) (sym backs))
    where
      lt-leb_false : (a b : ℕ) → b < a → nat_le a b ≡ false
      lt-leb_false a b lt = grind arith
