-- Members of lists and of finite sets.
use Rattle.std.proofs.Common.{◌≡◌, ℕ, Bool, true, false, ◌||◌, ◌&&◌, List, [], ◌∷◌, ◌++◌, map, refl, sym, ◌∙◌, ap, true≢false, ◌⊎◌, ◌↔◌, inl, inr, filter, Ordering, flat_map, arith, Option, Some}
use Rattle.std.proofs.{Common.{None}, lemmas.Bool.{and_from, or_left, or_right, or_cases, cases_Bool}, lemmas.List.Folds.{list_all-append, list_all-map, list_any-append}}
use Rattle.std.proofs.lemmas.Map.Views.{any-filter_same}
use Rattle.std.specs.{Cmp.{Equal-is, both_ways, tied_itself}, FinSet.{FinSet, slice_cmp-IsAntisymmetric}}
use Rattle.t1_font.specs.FontValue.{name_cmp, Encoding, Word, Codes, SparseArray}
use Rattle.t1_algebra.{specs.Keep.{sets_of}, proofs.Words.{list_any, list_all, eq_by_cmp, IsTotalOrder, first_so, second_so, nat_list_cmp_total, IsAntisymmetric, nat_cmp-IsAntisymmetric, Names}}
use Rattle.std.specs.FinSet as sets

-- ---- tests and options

pub cases_Option : {X : Type 0} (x : Option X) → (x ≡ None) ⊎ ((v : X) × (x ≡ Some v))
cases_Option None = inl refl
cases_Option (Some v) = inr (v, refl)

pub cases_Encoding : (e : Encoding) → ((v : List ℕ) × (e ≡ Word v)) ⊎ ((t : SparseArray) × (e ≡ Codes t))
cases_Encoding (Word v) = inl (v, refl)
cases_Encoding (Codes t) = inr (t, refl)

-- arithmetic, and cases on tests, options and Encodings
pub ruleset cases = (arith, cases_Bool, cases_Option, cases_Encoding)

-- nothing passes a test and fails it
pub clash : {P : Type 0} (a : Bool) → a ≡ true → a ≡ false → P
clash a p q = absurd (true≢false (sym p ∙ q))

-- ---- lists

module _ {K : Type 0} (p : K → Bool) (xs ys : List K) where
  -- an element of one of two lists that passes is in both together
  pub any_append_left : list_any p xs ≡ true → list_any p (xs ++ ys) ≡ true
  any_append_left h = list_any-append p xs ys ∙ or_left _ _ h

  pub any_append_right : list_any p ys ≡ true → list_any p (xs ++ ys) ≡ true
  any_append_right h = list_any-append p xs ys ∙ or_right _ _ h

-- an element of a flat map passes if one of some part does
pub any_flat_map : {J K : Type 0} (p : K → Bool) (f : J → List K) (xs : List J) → list_any p (flat_map f xs) ≡ list_any (λ x. list_any p (f x)) xs
any_flat_map p f [] = refl
any_flat_map p f (x ∷ xs) = list_any-append p (f x) (flat_map f xs) ∙ ap (λ b. list_any p (f x) || b) (any_flat_map p f xs)

-- whether some element of a list passes, by its first element
module _ {K : Type 0} (p : K → Bool) (k : K) (ks : List K) where
  pub here : p k ≡ true → list_any p (k ∷ ks) ≡ true
  here h = or_left (p k) (list_any p ks) h

  pub later : list_any p ks ≡ true → list_any p (k ∷ ks) ≡ true
  later h = or_right (p k) (list_any p ks) h

module _ {K : Type 0} {R : K → K → Ordering} (o : IsTotalOrder R) (same : IsAntisymmetric R) where
  -- keys that compare as equal are equal
  pub tied : (x y : K) → eq_by_cmp R x y ≡ true → x ≡ y
  tied x y h = same x y ((Equal-is (R x y)).0 h)

  -- a key compares with itself as equal
  pub itself : (x : K) → eq_by_cmp R x x ≡ true
  itself x = (Equal-is (R x x)).1 (tied_itself o x)

  -- if p holds of a member, some member passes
  pub any_at : (p : K → Bool) (q : K) (ks : List K) → list_any (eq_by_cmp R q) ks ≡ true → p q ≡ true → list_any p ks ≡ true
  any_at p q [] h is = absurd (true≢false (sym h))
  any_at p q (k ∷ ks) h is = elim (or_cases _ _ h) [ inl a ↦ or_left (p k) _ (ap p (sym (tied q k a)) ∙ is) | inr b ↦ or_right (p k) _ (any_at p q ks b is) ]

  -- if some member passes, there is one of which p holds
  pub any_one : (p : K → Bool) (ks : List K) → list_any p ks ≡ true → (q : K) × (list_any (eq_by_cmp R q) ks ≡ true) × (p q ≡ true)
  any_one p [] h = absurd (true≢false (sym h))
  any_one p (k ∷ ks) h = elim (or_cases _ _ h) [
    | inl a ↦ (k, or_left _ _ (itself k), a)
    | inr b ↦ let r = any_one p ks b in (r.0, or_right _ _ r.1, r.2)
  ]

  -- if all members pass, each does
  pub all_at : (p : K → Bool) (q : K) (ks : List K) → list_all p ks ≡ true → list_any (eq_by_cmp R q) ks ≡ true → p q ≡ true
  all_at p q [] all h = absurd (true≢false (sym h))
  all_at p q (k ∷ ks) all h = elim (or_cases _ _ h) [ inl a ↦ ap p (tied q k a) ∙ first_so _ _ all | inr b ↦ all_at p q ks (second_so _ _ all) b ]

  -- if each member passes, all do
  pub all_from : (p : K → Bool) (ks : List K) → ((q : K) → list_any (eq_by_cmp R q) ks ≡ true → p q ≡ true) → list_all p ks ≡ true
  all_from p [] each = refl
  all_from p (k ∷ ks) each = and_from _ _ (each k (or_left _ _ (itself k))) (all_from p ks (λ q h. each q (or_right _ _ h)))

  -- a key is left of a list if it passes and was in the list
  pub any_filtered : (p : K → Bool) (q : K) (ks : List K) → list_any (eq_by_cmp R q) (filter p ks) ≡ (p q && list_any (eq_by_cmp R q) ks)
  any_filtered p q ks = any-filter_same (eq_by_cmp R q) p (p q) (λ k t. ap p (sym (tied q k t))) ks

  -- what is left of a list was in it and passes
  pub any_filter : (p : K → Bool) (q : K) (ks : List K) → list_any (eq_by_cmp R q) (filter p ks) ≡ true → (list_any (eq_by_cmp R q) ks ≡ true) × (p q ≡ true)
  any_filter p q ks h = grind (cases, h, any_filtered p q ks)

  -- ---- sets

  -- sets with the same members are the same
  pub same_members : (s t : FinSet R) → ((q : K) → sets.contains s q ≡ true → sets.contains t q ≡ true) →
      ((q : K) → sets.contains t q ≡ true → sets.contains s q ≡ true) → s ≡ t
  same_members s t f g = sets.same_set o same s t (λ q. both_ways _ _ (f q) (g q))

  pub in_union : (s t : FinSet R) (q : K) → sets.contains (sets.union s t) q ≡ true → (sets.contains s q ≡ true) ⊎ (sets.contains t q ≡ true)
  in_union s t q h = or_cases _ _ (sym (sets.contains-union o s t q) ∙ h)

  -- a member of the set of a list is in the list
  pub in_list : (ks : List K) (q : K) → sets.contains (sets.from_list {R = R} ks) q ≡ true → list_any (eq_by_cmp R q) ks ≡ true
  in_list ks q h = sym (sets.contains-from_list o ks q) ∙ h

  -- what is in a list is a member of its set
  pub from_in_list : (ks : List K) (q : K) → list_any (eq_by_cmp R q) ks ≡ true → sets.contains (sets.from_list {R = R} ks) q ≡ true
  from_in_list ks q h = sets.contains-from_list o ks q ∙ h

  -- a member of the set of what is left of a list passes and was in the list
  pub contains-filter : (p : K → Bool) (ks : List K) (q : K) → sets.contains (sets.from_list {R = R} (filter p ks)) q ≡ (p q && list_any (eq_by_cmp R q) ks)
  contains-filter p ks q = sets.contains-from_list o (filter p ks) q ∙ any_filtered p q ks

  pub in_items : (s : FinSet R) (q : K) → sets.contains s q ≡ true → list_any (eq_by_cmp R q) (sets.items s) ≡ true
  in_items s q h = sym (sets.contains-items s q) ∙ h

  pub from_in_items : (s : FinSet R) (q : K) → list_any (eq_by_cmp R q) (sets.items s) ≡ true → sets.contains s q ≡ true
  from_in_items s q h = sets.contains-items s q ∙ h

-- names that compare as equal are equal
pub name_same : IsAntisymmetric name_cmp
name_same = slice_cmp-IsAntisymmetric nat_cmp-IsAntisymmetric

-- all sets of some names pass a test exactly if each set of these names does
pub each_set : (ns : List (List ℕ)) (p : Names → Bool) → (list_all p (sets_of ns) ≡ true) ↔
    ((s : Names) → ((q : List ℕ) → sets.contains s q ≡ true → list_any (eq_by_cmp name_cmp q) ns ≡ true) → p s ≡ true)
each_set [] p = (
  λ all s w. ap p (sets.same_set nat_list_cmp_total name_same s sets.empty (λ q. grind (cases, w q, sets.contains-empty name_cmp q)))
      ∙ first_so (p sets.empty) true all,
  λ each. and_from (p sets.empty) true (each sets.empty (λ q h. clash (sets.contains {R = name_cmp} sets.empty q) h (sets.contains-empty name_cmp q))) refl,
)
each_set (n ∷ ns) p =
    let both = list_all-append p (sets_of ns) (map (λ t. sets.insert t n) (sets_of ns)) in
    let new = list_all-map p (λ t. sets.insert t n) (sets_of ns) in (
      λ all s w. elim (cases_Bool (sets.contains s n)) [
        | inr out ↦ (each_set ns p).0 (first_so (list_all p (sets_of ns)) _ (sym both ∙ all)) s
            (λ q h. grind (cases, w q h, tied nat_list_cmp_total name_same q n))
        | inl is ↦
            ap p (sets.same_set nat_list_cmp_total name_same s (sets.insert (sets.remove s n) n) (λ q.
            grind (
              cases,
              sets.contains-insert nat_list_cmp_total (sets.remove s n) n q,
              sets.contains-remove nat_list_cmp_total s n q,
              tied nat_list_cmp_total name_same q n,
            )))
            ∙ (each_set ns (λ t. p (sets.insert t n))).0 (sym new ∙ second_so (list_all p (sets_of ns)) _ (sym both ∙ all)) (sets.remove s n)
            (λ q h. grind (cases, w q, sets.contains-remove nat_list_cmp_total s n q))
      ],
      λ each. both ∙ and_from _ _ ((each_set ns p).1 (λ s w. each s (λ q h. or_right _ _ (w q h))))
          (new ∙ (each_set ns (λ t. p (sets.insert t n))).1
          (λ s w. each (sets.insert s n) (λ q h. grind (cases, w q, sets.contains-insert nat_list_cmp_total s n q)))),
    )
