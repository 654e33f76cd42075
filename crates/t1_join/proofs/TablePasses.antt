-- One pass by two places over two tables whose keys rise.
use Rattle.std.proofs.Common.{◌≡◌, ◌<◌, ℕ, suc, ◌+◌, ◌-◌, arith, Ordering, Bool, true, false, cond, List, [], ◌∷◌, ◌++◌, map, length, drop, Option, Some, None, inl, inr, refl, sym, ap, subst, ◌∙◌}
use Rattle.std.proofs.{Math.Seq.{drop-cons}, lemmas.List.{append_assoc, append-nil, map-append, drop_all}}
use Rattle.std.proofs.lemmas.Option.{slice_get_within, slice_get_cases, get_or_from_slice_get, none-some}
use Rattle.std.specs.{declared.cmp.Ordering.TheVariants.{Less, Equal, Greater}, List.{slice_get}, Cmp.{IsTotalOrder}, FinMap.Entries.{by_order}}
use Rattle.std.specs.FinMap.{FinMap, IsAntisymmetric, entries, entries_sorted, entries-from_sorted, from_sorted, from_entries}
use Rattle.t1_join.{specs.{Entries.{entries_by}, Passes.{merge, first_met, AddsSome}, TableMeaning.{Rises}}, proofs.{Merges.{rises_merge, merged_from_sorted}, Sorted.{map_of}}}

-- an entry is the first from its place on, and nothing stands where there is none
module _ {X : Type 0} (es : List X) (i : ℕ) where
  pub from_place : (x : X) → slice_get es i ≡ Some x → drop i es ≡ x ∷ drop (i + 1) es
  from_place x h =
      let next : suc i ≡ i + 1 = omega arith in
      drop-cons es i x (slice_get_within es i x h) ∙ (λ k. get_or_from_slice_get es i x x h k ∷ drop (next k) es)

  pub past_all : slice_get es i ≡ None → drop i es ≡ []
  past_all h = elim (slice_get_cases es i).1 [
    | inl w ↦ absurd (none-some w.0 (sym h ∙ w.2))
    | inr w ↦ drop_all i es w.0
  ]

-- how much is left of two lists
abbrev pub left : {A : Type 0} → List A → List A → ℕ → ℕ → ℕ
left es fs i j = (length es - i) + (length fs - j)

-- ---- what comes next of two lists from two places on, by what stands there

-- the entries of both that are left, and the first key among them at which the values of both differ
module _ {K X : Type 0} (R : K → K → Ordering) (es fs : List (K × X)) where
  abbrev pub ahead : ℕ → ℕ → List (K × X)
  ahead i j = merge R (drop i es) (drop j fs)

  abbrev pub meets : (X → X → Bool) → ℕ → ℕ → Option K
  meets same i j = first_met R same (drop i es) (drop j fs)

module _ {K X : Type 0} (R : K → K → Ordering) (es fs : List (K × X)) (i j : ℕ) where
  pub none_ahead : slice_get es i ≡ None → slice_get fs j ≡ None → ahead R es fs i j ≡ []
  none_ahead a b = λ k. merge R (past_all es i a k) (past_all fs j b k)

  pub first_alone : (e : K × X) → slice_get es i ≡ Some e → slice_get fs j ≡ None → ahead R es fs i j ≡ e ∷ ahead R es fs (i + 1) j
  first_alone e a b =
      (λ k. merge R (from_place es i e a k) (past_all fs j b k)) ∙ ap (λ (r : List (K × X)). e ∷ merge R (drop (i + 1) es) r) (sym (past_all fs j b))

  pub second_alone : (f : K × X) → slice_get es i ≡ None → slice_get fs j ≡ Some f → ahead R es fs i j ≡ f ∷ ahead R es fs i (j + 1)
  second_alone f a b =
      (λ k. merge R (past_all es i a k) (from_place fs j f b k)) ∙ ap (λ (l : List (K × X)). f ∷ merge R l (drop (j + 1) fs)) (sym (past_all es i a))

  module _ (e f : K × X) (a : slice_get es i ≡ Some e) (b : slice_get fs j ≡ Some f) where
    both_stand : ahead R es fs i j ≡ by_order (R e.0 f.0) (e ∷ merge R (drop (i + 1) es) (f ∷ drop (j + 1) fs))
        (e ∷ ahead R es fs (i + 1) (j + 1)) (f ∷ merge R (e ∷ drop (i + 1) es) (drop (j + 1) fs))
    both_stand = λ k. merge R (from_place es i e a k) (from_place fs j f b k)

    pub first_lower : R e.0 f.0 ≡ Less → ahead R es fs i j ≡ e ∷ ahead R es fs (i + 1) j
    first_lower h = grind (arith, both_stand, h, from_place fs j f b)

    pub both_tie : R e.0 f.0 ≡ Equal → ahead R es fs i j ≡ e ∷ ahead R es fs (i + 1) (j + 1)
    both_tie h = grind (arith, both_stand, h)

    pub second_lower : R e.0 f.0 ≡ Greater → ahead R es fs i j ≡ f ∷ ahead R es fs i (j + 1)
    second_lower h = grind (arith, both_stand, h, from_place es i e a)

  module _ (same : X → X → Bool) where
    pub first_ends : slice_get es i ≡ None → meets R es fs same i j ≡ None
    first_ends a = ap (λ (l : List (K × X)). first_met R same l (drop j fs)) (past_all es i a)

    pub second_ends : slice_get fs j ≡ None → meets R es fs same i j ≡ None
    second_ends b = ap (first_met R same (drop i es)) (past_all fs j b) ∙ nothing_met (drop i es)
      where
        nothing_met : (l : List (K × X)) → first_met R same l [] ≡ None
        nothing_met [] = refl
        nothing_met (x ∷ l) = refl

    module _ (e f : K × X) (a : slice_get es i ≡ Some e) (b : slice_get fs j ≡ Some f) where
      both_meet : meets R es fs same i j ≡ by_order (R e.0 f.0) (first_met R same (drop (i + 1) es) (f ∷ drop (j + 1) fs))
          (cond (same e.1 f.1) (meets R es fs same (i + 1) (j + 1)) (Some e.0)) (first_met R same (e ∷ drop (i + 1) es) (drop (j + 1) fs))
      both_meet = λ k. first_met R same (from_place es i e a k) (from_place fs j f b k)

      pub meets_later : R e.0 f.0 ≡ Less → meets R es fs same i j ≡ meets R es fs same (i + 1) j
      meets_later h = grind (arith, both_meet, h, from_place fs j f b)

      pub meets_above : R e.0 f.0 ≡ Greater → meets R es fs same i j ≡ meets R es fs same i (j + 1)
      meets_above h = grind (arith, both_meet, h, from_place es i e a)

      pub meets_same : R e.0 f.0 ≡ Equal → same e.1 f.1 ≡ true → meets R es fs same i j ≡ meets R es fs same (i + 1) (j + 1)
      meets_same h k = grind (arith, both_meet, h, k)

      pub meets_here : R e.0 f.0 ≡ Equal → same e.1 f.1 ≡ false → meets R es fs same i j ≡ Some e.0
      meets_here h k = grind (arith, both_meet, h, k)

-- where what comes next is put out, the rest is left
pub put_next : {Y E : Type 0} (v : Y → E) (out more : List Y) (y : Y) (es rest all : List E) →
    map v out ++ es ≡ all → es ≡ v y ∷ rest → more ≡ out ++ y ∷ [] → map v more ++ rest ≡ all
put_next v out more y es rest all so_far is put =
    ap (λ ys. map v ys ++ rest) put
    ∙ (ap (λ es. es ++ rest) (map-append v out (y ∷ [])) ∙ (append_assoc (map v out) (v y ∷ []) rest ∙ (ap (λ es. map v out ++ es) (sym is) ∙ so_far)))

-- what is put out behind nothing is all that is out
pub put_out : {Y E : Type 0} (v : Y → E) (none all : List Y) (es : List E) → none ≡ [] → map v all ≡ map v none ++ es → map v all ≡ es
put_out v none all es is put = put ∙ ap (λ ys. map v ys ++ es) is

-- entries that are out, and nothing is left
pub all_out : {K X Y : Type 0} (v : Y → K × X) (out : List Y) (left es : List (K × X)) → left ≡ [] → map v out ++ left ≡ es → map v out ≡ es
all_out {K = K} {X = X} v out left es none h = sym (append-nil (map v out)) ∙ (ap (λ (l : List (K × X)). map v out ++ l) (sym none) ∙ h)

-- these were added behind what was there, and these are left of all that come
pub record Pushed {Y : Type 0} (more old new left : List Y) : Type 0 where
  pub added : List Y
  pub are : more ≡ added ++ left
  pub makes : new ≡ old ++ added

module _ {K X Y : Type 0} (v : Y → K × X) (more old : List (K × X)) (out : List Y) where
  -- before the first
  pub none_pushed : Pushed more (map v out) (map v out) more
  none_pushed = record { added = []; are = refl; makes = sym (append-nil (map v out)) }

  -- after one more
  pub one_pushed : (e : Y) (left : List (K × X)) → Pushed more old (map v out) (v e ∷ left) → Pushed more old (map v (out ++ e ∷ [])) left
  one_pushed e left p = record {
    added = p.added ++ v e ∷ [];
    are = p.are ∙ sym (append_assoc p.added (v e ∷ []) left);
    makes = map-append v out (e ∷ []) ∙ (ap (λ (l : List (K × X)). l ++ v e ∷ []) p.makes ∙ append_assoc old p.added (v e ∷ []));
  }

  -- where none is left, all were
  pub all_pushed : (left : List (K × X)) → Pushed more old (map v out) left → left ≡ [] → map v out ≡ old ++ more
  all_pushed left p none =
      p.makes ∙ ap (λ (l : List (K × X)). old ++ l) (sym (p.are ∙ (ap (λ (l : List (K × X)). p.added ++ l) none ∙ append-nil p.added)))

  -- those that were are the first few
  pub some_pushed : (left : List (K × X)) → Pushed more old (map v out) left → AddsSome more old (map v out)
  some_pushed left p = record { added = p.added; left = left; are = p.are; makes = p.makes }

-- where an entry stands, less is left once the pass goes on behind it
module _ {K X : Type 0} (es fs : List (K × X)) (i j : ℕ) (e f : K × X) (a : slice_get es i ≡ Some e) (b : slice_get fs j ≡ Some f) where
  pub first_nearer : left es fs (i + 1) j < left es fs i j
  first_nearer = omega (arith, slice_get_within es i e a)

  pub second_nearer : left es fs i (j + 1) < left es fs i j
  second_nearer = omega (arith, slice_get_within fs j f b)

  pub both_nearer : left es fs (i + 1) (j + 1) < left es fs i j
  both_nearer = omega (arith, slice_get_within es i e a, slice_get_within fs j f b)

-- what a pass over the entries of two maps makes rises, and has the entries of both
module _ {K X : Type 0} {R : K → K → Ordering} (o : IsTotalOrder R) (m n : FinMap R X) (all : List (K × X)) (h : all ≡ merge R (entries m) (entries n)) where
  pub merge_rises : Rises R all
  merge_rises = subst (Rises R) (sym h) (rises_merge o (entries m) (entries n) (entries_sorted m) (entries_sorted n))

  pub merge_is : IsAntisymmetric R → from_sorted all ≡ from_entries {R = R} (entries m ++ entries n)
  merge_is same = ap (from_sorted {R = R}) h ∙ (merged_from_sorted o same (entries m) (entries n) (entries_sorted m) (entries_sorted n)
      ∙ (λ i. from_entries (entries (map_of (entries m) m refl i) ++ entries (map_of (entries n) n refl i))))

-- the entries of both maps are the merged entries
pub merged_entries : {K X : Type 0} {R : K → K → Ordering} → IsTotalOrder R → IsAntisymmetric R → (m n : FinMap R X) →
    entries (from_entries {R = R} (entries m ++ entries n)) ≡ merge R (entries m) (entries n)
merged_entries {R = R} o same m n =
    ap entries (sym (merge_is o m n (merge R (entries m) (entries n)) refl same))
    ∙ entries-from_sorted R (merge R (entries m) (entries n)) (merge_rises o m n (merge R (entries m) (entries n)) refl)

-- entries seen by keys that mean themselves stay
pub entries_same : {K X : Type 0} (es : List (K × X)) → entries_by (λ k. k) (λ x. x) es ≡ es
entries_same [] = refl
entries_same (e ∷ es) = λ i. e ∷ entries_same es i
