-- One pass over two lists of entries whose keys rise makes the entries of both of their maps.
use Rattle.std.proofs.Common.{◌≡◌, refl, sym, ap, ◌∙◌, Bool, true, false, cond, T, List, [], ◌∷◌, ◌++◌, Option, Some, None}
use Rattle.std.specs.{declared.cmp.Ordering.{Ordering}, declared.cmp.Ordering.TheVariants.{Less, Equal, Greater}, Ordering.{ordering_reverse, is_eq}, Cmp.{IsTotalOrder, alike_right}}
use Rattle.std.specs.{FinMap.{find, from_sorted, from_entries, entries, entries-from_sorted, get-from_sorted, get-from_entries, IsAntisymmetric, same_map}, FinMap.Entries.{below_all, by_order}}
use Rattle.t1_join.{specs.{TableMeaning.{Rises}, Passes.{weave, merge}}, proofs.Sorted.{both_true, make_both, lt_is, is_lt_from}}

-- the first of two values that is there
abbrev first_of : {X : Type 0} → Option X → Option X → Option X
first_of None y = y
first_of (Some x) y = Some x

module _ {K X : Type 0} {R : K → K → Ordering} (o : IsTotalOrder R) where
  -- a key below one that is below all entries is below them all
  pub Below-less : (x y : K) (es : List (K × X)) → R x y ≡ Less → T (below_all R y es) → T (below_all R x es)
  Below-less x y [] p h = tt
  Below-less x y (e ∷ es) p h = make_both _ _ (is_lt_from (o.trans x y e.0 p (lt_is _ (both_true _ _ h).0))) (Below-less x y es p (both_true _ _ h).1)

  -- a key that ties with one that is below all entries is below them all
  pub below_tied : (x y : K) (es : List (K × X)) → R x y ≡ Equal → T (below_all R y es) → T (below_all R x es)
  below_tied x y [] p h = tt
  below_tied x y (e ∷ es) p h = make_both _ _ (is_lt_from (o.congr x y e.0 p ∙ lt_is _ (both_true _ _ h).0)) (below_tied x y es p (both_true _ _ h).1)

  -- a key below all entries is not among them
  pub find_below : (q : K) (es : List (K × X)) → T (below_all R q es) → find R q es ≡ None
  find_below q [] h = refl
  find_below q (e ∷ es) h = ap (λ r. cond (is_eq r) (Some e.1) (find R q es)) (lt_is _ (both_true _ _ h).0) ∙ find_below q es (both_true _ _ h).1

  -- what is below both lists is below their merge
  below_weave : (x : K) (e : K × X) (rest : List (K × X) → List (K × X)) (fs : List (K × X)) → R x e.0 ≡ Less →
      ((gs : List (K × X)) → T (below_all R x gs) → T (below_all R x (rest gs))) → T (below_all R x fs) → T (below_all R x (weave R e rest fs))
  below_weave x e rest [] p k h = make_both _ _ (is_lt_from p) (k [] tt)
  below_weave x e rest (f ∷ fs) p k h =
      elim (R e.0 f.0) as (λ r. T (below_all R x (by_order r (e ∷ rest (f ∷ fs)) (e ∷ rest fs) (f ∷ weave R e rest fs)))) [
        | Less ↦ make_both _ _ (is_lt_from p) (k (f ∷ fs) h)
        | Equal ↦ make_both _ _ (is_lt_from p) (k fs (both_true _ _ h).1)
        | Greater ↦ make_both _ _ (both_true _ _ h).0 (below_weave x e rest fs p k (both_true _ _ h).1)
      ]

  below_merge : (x : K) (es fs : List (K × X)) → T (below_all R x es) → T (below_all R x fs) → T (below_all R x (merge R es fs))
  below_merge x [] fs g h = h
  below_merge x (e ∷ es) fs g h = below_weave x e (merge R es) fs (lt_is _ (both_true _ _ g).0) (λ gs k. below_merge x es gs (both_true _ _ g).1 k) h

  -- the keys of the merge rise
  rises_weave : (e : K × X) (es fs : List (K × X)) → T (below_all R e.0 es) → ((gs : List (K × X)) → Rises R gs → Rises R (merge R es gs)) → Rises R fs →
      Rises R (weave R e (merge R es) fs)
  rises_weave e es [] b k h = make_both _ _ (below_merge e.0 es [] b tt) (k [] tt)
  rises_weave e es (f ∷ fs) b k h =
      let fb = (both_true _ _ h).0 in
      let fr = (both_true _ _ h).1 in
      elim (R e.0 f.0) as (λ r. R e.0 f.0 ≡ r → Rises R (by_order r (e ∷ merge R es (f ∷ fs)) (e ∷ merge R es fs) (f ∷ weave R e (merge R es) fs))) [
        | Less ↦ λ p. make_both _ _ (below_merge e.0 es (f ∷ fs) b (make_both _ _ (is_lt_from p) (Below-less e.0 f.0 fs p fb))) (k (f ∷ fs) h)
        | Equal ↦ λ p. make_both _ _ (below_merge e.0 es fs b (below_tied e.0 f.0 fs p fb)) (k fs fr)
        | Greater ↦ λ p.
            let less : R f.0 e.0 ≡ Less = o.antisymm f.0 e.0 ∙ ap ordering_reverse p in
            make_both _ _ (below_weave f.0 e (merge R es) fs less (λ gs. below_merge f.0 es gs (Below-less f.0 e.0 es less b)) fb) (rises_weave e es fs b k fr)
      ] refl

  -- the keys of a merge rise if those of both lists do
  pub rises_merge : (es fs : List (K × X)) → Rises R es → Rises R fs → Rises R (merge R es fs)
  rises_merge [] fs g h = h
  rises_merge (e ∷ es) fs g h = rises_weave e es fs (both_true _ _ g).0 (λ gs k. rises_merge es gs (both_true _ _ g).1 k) h

  -- and it finds what the first list finds, or else the second
  found_weave : (q : K) (e : K × X) (es fs : List (K × X)) → T (below_all R e.0 es) →
      ((gs : List (K × X)) → Rises R gs → find R q (merge R es gs) ≡ first_of (find R q es) (find R q gs)) → Rises R fs →
      find R q (weave R e (merge R es) fs) ≡ first_of (find R q (e ∷ es)) (find R q fs)
  found_weave q e es [] b k h =
      elim (is_eq (R q e.0)) as (λ t. cond t (Some e.1) (find R q (merge R es [])) ≡ first_of (cond t (Some e.1) (find R q es)) None) [
        | true ↦ refl
        | false ↦ k [] tt
      ]
  found_weave q e es (f ∷ fs) b k h =
      elim (R e.0 f.0) as (λ r. R e.0 f.0 ≡ r → find R q (by_order r (e ∷ merge R es (f ∷ fs)) (e ∷ merge R es fs) (f ∷ weave R e (merge R es) fs))
      ≡ first_of (find R q (e ∷ es)) (find R q (f ∷ fs))) [
        | Less ↦ λ p. elim (is_eq (R q e.0)) as (λ t. cond t (Some e.1) (find R q (merge R es (f ∷ fs)))
            ≡ first_of (cond t (Some e.1) (find R q es)) (find R q (f ∷ fs))) [ true ↦ refl | false ↦ k (f ∷ fs) h ]
        | Equal ↦ λ p.
            let same : is_eq (R q f.0) ≡ is_eq (R q e.0) = ap is_eq (sym (alike_right o e.0 f.0 q p)) in
            elim (is_eq (R q e.0))
            as (λ t. is_eq (R q f.0) ≡ t → cond t (Some e.1) (find R q (merge R es fs)) ≡ first_of (cond t (Some e.1) (find R q es)) (find R q (f ∷ fs))) [
              | true ↦ λ s. refl
              | false ↦ λ s. k fs (both_true _ _ h).1 ∙ ap (λ t. first_of (find R q es) (cond t (Some f.1) (find R q fs))) (sym s)
            ] same
        | Greater ↦ λ p.
            let less : R f.0 e.0 ≡ Less = o.antisymm f.0 e.0 ∙ ap ordering_reverse p in
            let rest = found_weave q e es fs b k (both_true _ _ h).1 in
            elim (R q f.0) as (λ r. R q f.0 ≡ r →
            cond (is_eq r) (Some f.1) (find R q (weave R e (merge R es) fs)) ≡ first_of (find R q (e ∷ es)) (cond (is_eq r) (Some f.1) (find R q fs))) [
              | Less ↦ λ _. rest
              | Greater ↦ λ _. rest
              | Equal ↦ λ t.
                  let low : R q e.0 ≡ Less = o.congr q f.0 e.0 t ∙ less in
                  ap (λ (w : Option X). first_of w (Some f.1)) (sym (find_below q (e ∷ es) (make_both _ _ (is_lt_from low) (Below-less q e.0 es low b))))
            ] refl
      ] refl

  found_merge : (q : K) (es fs : List (K × X)) → Rises R es → Rises R fs → find R q (merge R es fs) ≡ first_of (find R q es) (find R q fs)
  found_merge q [] fs g h = refl
  found_merge q (e ∷ es) fs g h = found_weave q e es fs (both_true _ _ g).0 (λ gs k. found_merge q es gs (both_true _ _ g).1 k) h

  -- the map of what one pass makes of the entries of two maps
  pub merged_from_sorted : IsAntisymmetric R → (es fs : List (K × X)) → Rises R es → Rises R fs →
      from_sorted {R = R} (merge R es fs) ≡ from_entries (entries (from_sorted {R = R} es) ++ entries (from_sorted {R = R} fs))
  merged_from_sorted same es fs g h =
      same_map o same _ _ (λ q.
      get-from_sorted R (merge R es fs) q (rises_merge es fs g h) ∙ found_merge q es fs g h ∙ sym (found_both q es fs)
      ∙ sym (get-from_entries o (entries (from_sorted {R = R} es) ++ entries (from_sorted {R = R} fs)) q
      ∙ (λ i. find R q (entries-from_sorted R es g i ++ entries-from_sorted R fs h i))))
    where
      find_in : (t : Bool) (a : X) (x y : Option X) → cond t (Some a) (first_of x y) ≡ first_of (cond t (Some a) x) y
      find_in true a x y = refl
      find_in false a x y = refl

      found_both : (q : K) (es fs : List (K × X)) → find R q (es ++ fs) ≡ first_of (find R q es) (find R q fs)
      found_both q [] fs = refl
      found_both q (e ∷ es) fs = ap (cond (is_eq (R q e.0)) (Some e.1)) (found_both q es fs) ∙ find_in (is_eq (R q e.0)) e.1 (find R q es) (find R q fs)
