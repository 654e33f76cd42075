-- The entries of an ordered map in memory, as a finite map.
use Rattle.std.proofs.Common.{◌≡◌, refl, sym, ap, ◌∙◌, subst, suc, Some, List, [], ◌∷◌, cond, Bool, true, false, T, length}
use Rattle.std.specs.{List.{AllByRecursion}, List.Sorted.{IsStrictlySortedBy}, FinMap.Entries.{below_all}, FinMap.{IsAntisymmetric}, Cmp.{IsTotalOrder}, declared.cmp.Ordering.{Ordering}}
use Rattle.std.specs.{declared.cmp.Ordering.TheVariants.{Less, Equal, Greater}, Option.{option_map}, Ordering.{eq_by_cmp, is_eq, is_lt, match_ordering}, Map.{lookup, keys_of}, BTreeMap.{insert_entry}}
use Rattle.t1_join.{specs.{Entries.{entries_by}, TableMeaning.{Rises}}, proofs.Sorted.{make_both}}
use Rattle.std.specs.FinMap as fin

pub is_eq-Equal : (o : Ordering) → is_eq o ≡ true → o ≡ Equal
is_eq-Equal Less h = cc
is_eq-Equal Equal h = refl
is_eq-Equal Greater h = cc

shadowed : {A : Type 0} (b : Bool) (x y z : A) → cond b x z ≡ cond b x (cond b y z)
shadowed true x y z = refl
shadowed false x y z = refl

swapped : {A : Type 0} (a b : Bool) (x y z : A) → (a ≡ true → b ≡ true → ⊥) → cond a x (cond b y z) ≡ cond b y (cond a x z)
swapped true true x y z apart = absurd (apart refl refl)
swapped true false x y z apart = refl
swapped false b x y z apart = refl

module _ {K V M X : Type 0} (f : K → M) (g : V → X) (R : K → K → Ordering) (S : M → M → Ordering)
    (o : IsTotalOrder S) (same : IsAntisymmetric S) (by : (x y : K) → R x y ≡ S (f x) (f y)) where
  -- a look-up by a key is one by what the key stands for
  pub find_entries : (k : M) (test : K → Bool) → ((x : K) → test x ≡ is_eq (S k (f x))) → (es : List (K × V)) →
      fin.find S k (entries_by f g es) ≡ option_map g (lookup test es)
  find_entries k test is [] = refl
  find_entries k test is (e ∷ es) =
      ap (λ b. cond b (Some (g e.1)) (fin.find S k (entries_by f g es))) (sym (is e.0))
      ∙ (elim (test e.0) as (λ b. cond b (Some (g e.1)) (fin.find S k (entries_by f g es)) ≡ option_map g (cond b (Some e.1) (lookup test es))) [
        | true ↦ refl
        | false ↦ find_entries k test is es
      ])

  -- an inserted entry stands at its key, and changes no other
  find_insert : (q : M) (es : List (K × V)) (k : K) (v : V) →
      fin.find S q (entries_by f g (insert_entry R es k v)) ≡ cond (eq_by_cmp S q (f k)) (Some (g v)) (fin.find S q (entries_by f g es))
  find_insert q [] k v = refl
  find_insert q (e ∷ es) k v =
      elim (R k e.0)
      as (λ r. R k e.0 ≡ r → fin.find S q (entries_by f g (match_ordering r ((k, v) ∷ e ∷ es) ((e.0, v) ∷ es) (e ∷ insert_entry R es k v)))
      ≡ cond (eq_by_cmp S q (f k)) (Some (g v)) (fin.find S q (entries_by f g (e ∷ es)))) [
        | Less ↦ λ h. refl
        | Equal ↦ λ h.
            let keys : f k ≡ f e.0 = same (f k) (f e.0) (sym (by k e.0) ∙ h) in
            ap (λ x. cond (eq_by_cmp S q x) (Some (g v)) (fin.find S q (entries_by f g es))) (sym keys)
            ∙ shadowed (eq_by_cmp S q (f k)) (Some (g v)) (Some (g e.1)) (fin.find S q (entries_by f g es))
            ∙ ap (λ x. cond (eq_by_cmp S q (f k)) (Some (g v)) (cond (eq_by_cmp S q x) (Some (g e.1)) (fin.find S q (entries_by f g es)))) keys
        | Greater ↦ λ h.
            ap (cond (eq_by_cmp S q (f e.0)) (Some (g e.1))) (find_insert q es k v)
            ∙ swapped (eq_by_cmp S q (f e.0)) (eq_by_cmp S q (f k)) (Some (g e.1)) (Some (g v)) (fin.find S q (entries_by f g es)) (λ a b. apart k e.0 q h a b)
      ]
      refl
    where
      apart : (x y : K) (q : M) → R x y ≡ Greater → eq_by_cmp S q (f y) ≡ true → eq_by_cmp S q (f x) ≡ true → ⊥
      apart x y q h a b =
          let p : q ≡ f y = same q (f y) (is_eq-Equal (S q (f y)) a) in
          let r : q ≡ f x = same q (f x) (is_eq-Equal (S q (f x)) b) in
          let t : S q q ≡ Equal = ap (S q) p ∙ is_eq-Equal (S q (f y)) a in
          let e : S (f x) (f y) ≡ Greater = sym (by x y) ∙ h in
          cc

  -- the map of the entries with one more
  pub map_insert : (es : List (K × V)) (k : K) (v : V) →
      fin.from_entries {R = S} (entries_by f g (insert_entry R es k v)) ≡ fin.insert (fin.from_entries (entries_by f g es)) (f k) (g v)
  map_insert es k v = fin.same_map o same _ _ (λ q.
      fin.get-from_entries o (entries_by f g (insert_entry R es k v)) q
      ∙ find_insert q es k v
      ∙ ap (cond (eq_by_cmp S q (f k)) (Some (g v))) (sym (fin.get-from_entries o (entries_by f g es) q))
      ∙ sym (fin.get-insert o (fin.from_entries (entries_by f g es)) (f k) (g v) q))

  below_entries : (k : K) (es : List (K × V)) → AllByRecursion (λ y. R k y ≡ Less) (keys_of es) → T (below_all S (f k) (entries_by f g es))
  below_entries k [] h = tt
  below_entries k (e ∷ es) h = make_both _ _ (subst (λ r. T (is_lt r)) (sym h.0 ∙ by k e.0) tt) (below_entries k es h.1)

  -- entries in the order of their keys rise
  pub sorted_entries : (es : List (K × V)) → IsStrictlySortedBy R (keys_of es) → Rises S (entries_by f g es)
  unfolding IsStrictlySortedBy
  sorted_entries [] h = tt
  sorted_entries (e ∷ es) h = make_both _ _ (below_entries e.0 es h.0) (sorted_entries es h.1)

  -- so their map is that of them in any order
  pub map_sorted : (es : List (K × V)) → IsStrictlySortedBy R (keys_of es) → fin.from_sorted {R = S} (entries_by f g es) ≡ fin.from_entries (entries_by f g es)
  map_sorted es h =
      fin.same_map o same _ _ (λ q. fin.get-from_sorted S (entries_by f g es) q (sorted_entries es h) ∙ sym (fin.get-from_entries o (entries_by f g es) q))

  -- and they are its entries
  pub entries_are : (es : List (K × V)) → IsStrictlySortedBy R (keys_of es) → entries_by f g es ≡ fin.entries {R = S} (fin.from_entries (entries_by f g es))
  entries_are es h = sym (fin.entries-from_sorted S (entries_by f g es) (sorted_entries es h)) ∙ ap fin.entries (map_sorted es h)

  length_entries : (es : List (K × V)) → length (entries_by f g es) ≡ length es
  length_entries [] = refl
  length_entries (e ∷ es) = ap suc (length_entries es)
