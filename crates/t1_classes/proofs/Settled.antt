-- Groups that are settled: no two of them join, they have the files of the groups, and each of several files joins.
use Rattle.std.proofs.Common.{◌≡◌, ◌<◌, ◌≤◌, ◌+◌, ◌-◌, ◌/◌, ◌∷◌, ◌++◌, ◌∙◌, ◌⊎◌}
use Rattle.std.proofs.Common.{ℕ, zero, suc, Bool, true, false, cond, nat_le, List, [], length, get_or, set, take, drop, Option, Some, None, refl, sym, ap, subst, arith, inl, inr}
use Rattle.std.proofs.lemmas.{List.{length-set}, List.Edits.{length-remove, get_or-remove_below}, Option.{none-some, same_Some}}
use Rattle.std.specs.{List.{AllByRecursion, remove}, Option.{option_map_or}}
use Rattle.t1_classes.specs.Partition.{File, Fit, singles, group_before, halves_fitted, fitted_by, fitted, groups_from, partner_from, pair_or, pair_from, joined_at, settled}
use Rattle.t1_classes.proofs.{SortedFiles.{times}, Kept.{all_files, times_append}}

-- ---- pairs

-- the places of two groups that join, where the first group has place i
pub record Pair (joins : List File → Bool) (i : ℕ) (gs : List (List File)) (x : ℕ × ℕ) : Type 0 where
  pub from : i ≤ x.0
  pub order : x.0 < x.1
  pub within : x.1 < i + length gs
  pub join : joins (get_or gs (x.0 - i) [] ++ get_or gs (x.1 - i) []) ≡ true

module _ (joins : List File → Bool) where
  -- a partner joins
  record Partner (g : List File) (j : ℕ) (hs : List (List File)) (k : ℕ) : Type 0 where
    from : j ≤ k
    within : k < j + length hs
    join : joins (g ++ get_or hs (k - j) []) ≡ true

  partner_joins : (g : List File) (j : ℕ) (hs : List (List File)) (k : ℕ) → partner_from joins g j hs ≡ Some k → Partner g j hs k
  unfolding partner_from
  partner_joins g j [] k e = absurd (none-some k e)
  partner_joins g j (h ∷ hs) k e = by_test (λ d. partner_joins g (j + 1) hs k d) (joins (g ++ h)) refl e
    where
      by_test : (partner_from joins g (j + 1) hs ≡ Some k → Partner g (j + 1) hs k) → (b : Bool) → joins (g ++ h) ≡ b →
          cond b (Some j) (partner_from joins g (j + 1) hs) ≡ Some k → Partner g j (h ∷ hs) k
      by_test more true t d =
          let same : j ≡ k = same_Some j k d in
          let none : k - j ≡ 0 = omega (arith, same) in
          record { from = omega (arith, same); within = omega (arith, same); join = ap (λ (n : ℕ). joins (g ++ get_or (h ∷ hs) n [])) none ∙ t }
      by_test more false t d =
          let p = more d in
          let later : k - j ≡ suc (k - (j + 1)) = omega (arith, p.from) in
          record {
            from = omega (arith, p.from);
            within = omega (arith, p.within);
            join = ap (λ (n : ℕ). joins (g ++ get_or (h ∷ hs) n [])) later ∙ p.join;
          }

  -- where there is none, no group joins
  none_joins : (g : List File) (j : ℕ) (hs : List (List File)) → partner_from joins g j hs ≡ None → (k : ℕ) → k < length hs →
      joins (g ++ get_or hs k []) ≡ false
  unfolding partner_from
  none_joins g j [] e k lt = absurd (omega (arith, lt))
  none_joins g j (h ∷ hs) e k lt = by_test (λ d. none_joins g (j + 1) hs d) (joins (g ++ h)) refl e k lt
    where
      by_test : (partner_from joins g (j + 1) hs ≡ None → (k : ℕ) → k < length hs → joins (g ++ get_or hs k []) ≡ false) → (b : Bool) → joins (g ++ h) ≡ b →
          cond b (Some j) (partner_from joins g (j + 1) hs) ≡ None → (k : ℕ) → k < length (h ∷ hs) → joins (g ++ get_or (h ∷ hs) k []) ≡ false
      by_test more true t d k lt = absurd (none-some j (sym d))
      by_test more false t d zero lt = t
      by_test more false t d (suc k) lt = more d k (omega (arith, lt))

  pair_joins : (i : ℕ) (gs : List (List File)) (x : ℕ × ℕ) → pair_from joins i gs ≡ Some x → Pair joins i gs x
  unfolding pair_from
  pair_joins i [] x e = absurd (none-some x e)
  pair_joins i (g ∷ gs) x e = by_partner (pair_joins (i + 1) gs x) (partner_from joins g (i + 1) gs) refl e
    where
      first : (j : ℕ) → partner_from joins g (i + 1) gs ≡ Some j → Pair joins i (g ∷ gs) (i, j)
      first j e =
          let p = partner_joins g (i + 1) gs j e in
          let none : i - i ≡ 0 = omega arith in
          let later : j - i ≡ suc (j - (i + 1)) = omega (arith, p.from) in
          record {
            from = omega arith;
            order = omega (arith, p.from);
            within = omega (arith, p.within);
            join = (λ k. joins (get_or (g ∷ gs) (none k) [] ++ get_or (g ∷ gs) (later k) [])) ∙ p.join;
          }

      by_partner : (pair_from joins (i + 1) gs ≡ Some x → Pair joins (i + 1) gs x) → (o : Option ℕ) → partner_from joins g (i + 1) gs ≡ o →
          pair_or i o (pair_from joins (i + 1) gs) ≡ Some x → Pair joins i (g ∷ gs) x
      by_partner more None t d =
          let p = more d in
          let one : x.0 - i ≡ suc (x.0 - (i + 1)) = omega (arith, p.from) in
          let other : x.1 - i ≡ suc (x.1 - (i + 1)) = omega (arith, p.from, p.order) in
          record {
            from = omega (arith, p.from);
            order = p.order;
            within = omega (arith, p.within);
            join = (λ k. joins (get_or (g ∷ gs) (one k) [] ++ get_or (g ∷ gs) (other k) [])) ∙ p.join;
          }
      by_partner more (Some j) t d = subst (Pair joins i (g ∷ gs)) (same_Some (i, j) x d) (first j t)

  -- where there is no pair, no two join
  pub no_two_join : (i : ℕ) (gs : List (List File)) → pair_from joins i gs ≡ None → (a b : ℕ) → a < b → b < length gs →
      joins (get_or gs a [] ++ get_or gs b []) ≡ false
  unfolding pair_from
  no_two_join i [] e a b less lt = absurd (omega (arith, lt))
  no_two_join i (g ∷ gs) e a b less lt = by_partner (no_two_join (i + 1) gs) (partner_from joins g (i + 1) gs) refl e a b less lt
    where
      by_partner : (pair_from joins (i + 1) gs ≡ None → (a b : ℕ) → a < b → b < length gs → joins (get_or gs a [] ++ get_or gs b []) ≡ false) →
          (o : Option ℕ) → partner_from joins g (i + 1) gs ≡ o → pair_or i o (pair_from joins (i + 1) gs) ≡ None →
          (a b : ℕ) → a < b → b < length (g ∷ gs) → joins (get_or (g ∷ gs) a [] ++ get_or (g ∷ gs) b []) ≡ false
      by_partner more (Some j) t d a b less lt = absurd (none-some (i, j) (sym d))
      by_partner more None t d a zero less lt = absurd (omega (arith, less))
      by_partner more None t d zero (suc b) less lt = none_joins g (i + 1) gs t b (omega (arith, lt))
      by_partner more None t d (suc a) (suc b) less lt = more d a b (omega (arith, less)) (omega (arith, lt))

  -- ---- turns

  length_joined : (gs : List (List File)) (x : ℕ × ℕ) → x.1 < length gs → length (joined_at gs x) + 1 ≡ length gs
  length_joined gs x lt = ap (λ (n : ℕ). n + 1) (length-set (remove gs x.1) x.0 (get_or gs x.0 [] ++ get_or gs x.1 [])) ∙ length-remove gs x.1 lt

  pub none_left : (n : ℕ) (gs : List (List File)) → length gs ≤ n → pair_from joins 0 (settled joins n gs) ≡ None
  unfolding settled pair_from
  none_left zero [] le = refl
  none_left zero (g ∷ gs) le = absurd (omega (arith, le))
  none_left (suc n) gs le = by_pair (none_left n) (pair_from joins 0 gs) refl
    where
      by_pair : ((hs : List (List File)) → length hs ≤ n → pair_from joins 0 (settled joins n hs) ≡ None) → (o : Option (ℕ × ℕ)) → pair_from joins 0 gs ≡ o →
          pair_from joins 0 (option_map_or (λ x. settled joins n (joined_at gs x)) o gs) ≡ None
      by_pair more None e = e
      by_pair more (Some x) e =
          let p = pair_joins 0 gs x e in
          let long = length_joined gs x (omega (arith, p.within)) in
          more (joined_at gs x) (omega (arith, le, long))

-- ---- files

module _ (x : File) where
  abbrev all_times : List (List File) → ℕ
  all_times gs = times x (all_files gs)

  times_set : (gs : List (List File)) (i : ℕ) (v : List File) → i < length gs → all_times (set gs i v) + times x (get_or gs i []) ≡ all_times gs + times x v
  times_set [] i v lt = absurd (omega (arith, lt))
  times_set (g ∷ gs) zero v lt = omega (arith, times_append x v (all_files gs), times_append x g (all_files gs))
  times_set (g ∷ gs) (suc i) v lt =
      omega (arith, times_append x g (all_files gs), times_append x g (all_files (set gs i v)), times_set gs i v (omega (arith, lt)))

  times_remove : (gs : List (List File)) (j : ℕ) → j < length gs → all_times (remove gs j) + times x (get_or gs j []) ≡ all_times gs
  times_remove [] j lt = absurd (omega (arith, lt))
  times_remove (g ∷ gs) zero lt = omega (arith, times_append x g (all_files gs))
  times_remove (g ∷ gs) (suc j) lt =
      omega (arith, times_append x g (all_files gs), times_append x g (all_files (remove gs j)), times_remove gs j (omega (arith, lt)))

  times_joined : (gs : List (List File)) (y : ℕ × ℕ) → y.0 < y.1 → y.1 < length gs → all_times (joined_at gs y) ≡ all_times gs
  times_joined gs y less lt =
      let g = get_or gs y.0 [] in
      let h = get_or gs y.1 [] in
      let same : get_or (remove gs y.1) y.0 [] ≡ g = get_or-remove_below gs y.1 [] y.0 less lt in
      omega (
        arith,
        times_set (remove gs y.1) y.0 (g ++ h) (omega (arith, less, lt, length-remove gs y.1 lt)),
        ap (times x) same,
        times_remove gs y.1 lt,
        times_append x g h,
      )

  pub times_settled : (joins : List File → Bool) (n : ℕ) (gs : List (List File)) → all_times (settled joins n gs) ≡ all_times gs
  unfolding settled
  times_settled joins zero gs = refl
  times_settled joins (suc n) gs = by_pair (times_settled joins n) (pair_from joins 0 gs) refl
    where
      by_pair : ((hs : List (List File)) → all_times (settled joins n hs) ≡ all_times hs) → (o : Option (ℕ × ℕ)) → pair_from joins 0 gs ≡ o →
          all_times (option_map_or (λ x. settled joins n (joined_at gs x)) o gs) ≡ all_times gs
      by_pair more None e = refl
      by_pair more (Some y) e = let p = pair_joins joins 0 gs y e in more (joined_at gs y) ∙ times_joined gs y p.order (omega (arith, p.within))

-- ---- each group joins

module _ (joins : List File → Bool) where
  -- a list of files joins, or it is one file
  abbrev pub JoinsOrOne : List File → Type 0
  JoinsOrOne g = (joins g ≡ true) ⊎ (length g ≡ 1)

  -- it joins, or it is empty
  abbrev JoinsOrNone : List File → Type 0
  JoinsOrNone g = (joins g ≡ true) ⊎ (length g ≡ 0)

  fit_joins : (n : ℕ) (g fs : List File) → JoinsOrNone g → JoinsOrNone (fitted joins n g fs).group
  unfolding fitted
  fit_joins zero g fs h = h
  fit_joins (suc n) g fs h =
      let first = fitted joins n g (take (length fs / 2) fs) in
      let halves = fit_joins n first.group (drop (length fs / 2) fs) (fit_joins n g (take (length fs / 2) fs) h) in
      by_tests (joins (g ++ fs)) refl (nat_le (length fs) 1) (halves_fitted (fitted joins n) g fs) h halves
    where
      by_tests : (a : Bool) → joins (g ++ fs) ≡ a → (b : Bool) (halves : Fit) → JoinsOrNone g → JoinsOrNone halves.group →
          JoinsOrNone (fitted_by a b g fs halves).group
      by_tests true e b halves h k = inl e
      by_tests false e true halves h k = h
      by_tests false e false halves h k = k

  ones : (fs : List File) → AllByRecursion JoinsOrOne (singles fs)
  ones [] = tt
  ones (f ∷ fs) = (inr (omega arith), ones fs)

  pub groups_join : (n : ℕ) (fs : List File) → AllByRecursion JoinsOrOne (groups_from joins n fs)
  unfolding groups_from
  groups_join zero fs = ones fs
  groups_join (suc n) fs =
      let f = fitted joins (length fs) [] fs in
      by_group f.group f.left (groups_from joins n f.left) (fit_joins (length fs) [] fs (inr refl)) (groups_join n f.left)
    where
      by_group : (g left : List File) (more : List (List File)) → JoinsOrNone g → AllByRecursion JoinsOrOne more →
          AllByRecursion JoinsOrOne (group_before g left more)
      by_group [] left more h k = ones left
      by_group (f ∷ fs) left more (inl h) k = (inl h, k)
      by_group (f ∷ fs) left more (inr h) k = absurd (omega (arith, h))

all_set : {X : Type 0} (P : X → Type 0) (xs : List X) (i : ℕ) (v : X) → P v → AllByRecursion P xs → AllByRecursion P (set xs i v)
all_set P [] i v p h = tt
all_set P (x ∷ xs) zero v p h = (p, h.1)
all_set P (x ∷ xs) (suc i) v p h = (h.0, all_set P xs i v p h.1)

all_remove : {X : Type 0} (P : X → Type 0) (xs : List X) (j : ℕ) → AllByRecursion P xs → AllByRecursion P (remove xs j)
all_remove P [] zero h = tt
all_remove P [] (suc j) h = tt
all_remove P (x ∷ xs) zero h = h.1
all_remove P (x ∷ xs) (suc j) h = (h.0, all_remove P xs j h.1)

pub settled_join : (joins : List File → Bool) (n : ℕ) (gs : List (List File)) → AllByRecursion (JoinsOrOne joins) gs →
    AllByRecursion (JoinsOrOne joins) (settled joins n gs)
unfolding settled
settled_join joins zero gs h = h
settled_join joins (suc n) gs h = by_pair (settled_join joins n) (pair_from joins 0 gs) refl h
  where
    by_pair : ((hs : List (List File)) → AllByRecursion (JoinsOrOne joins) hs → AllByRecursion (JoinsOrOne joins) (settled joins n hs)) →
        (o : Option (ℕ × ℕ)) → pair_from joins 0 gs ≡ o → AllByRecursion (JoinsOrOne joins) gs →
        AllByRecursion (JoinsOrOne joins) (option_map_or (λ x. settled joins n (joined_at gs x)) o gs)
    by_pair more None e h = h
    by_pair more (Some x) e h =
        let one : x.0 ≡ x.0 - 0 = omega arith in
        let other : x.1 ≡ x.1 - 0 = omega arith in
        let both : joins (get_or gs x.0 [] ++ get_or gs x.1 []) ≡ true =
        (λ k. joins (get_or gs (one k) [] ++ get_or gs (other k) [])) ∙ (pair_joins joins 0 gs x e).join in
        more (joined_at gs x)
        (all_set (JoinsOrOne joins) (remove gs x.1) x.0 (get_or gs x.0 [] ++ get_or gs x.1 []) (inl both) (all_remove (JoinsOrOne joins) gs x.1 h))
