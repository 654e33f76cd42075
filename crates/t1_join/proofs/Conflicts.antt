-- The first conflict that one pass over two sorted lists meets is the smallest.
use Rattle.std.proofs.{Common.{◌≡◌, refl, sym, ap, ◌∙◌, subst, Bool, true, false, cond, T, List, [], ◌∷◌, Option, Some, None, true≢false}, lemmas.Cmp.{nat_list_cmp_total}}
use Rattle.std.specs.{declared.cmp.Ordering.{Ordering}, declared.cmp.Ordering.TheVariants.{Less, Equal, Greater}, FinMap.Entries.{by_order, below_all}}
use Rattle.std.specs.{FinMap.{find, get, entries, entries_sorted, get-entries}, Ordering.{is_eq, ordering_reverse}}
use Rattle.std.specs.Cmp.{IsTotalOrder, alike_right, tied_itself}
use Rattle.t1_join.specs.{Meaning.{Meaning, meaning_cmp, same_meaning}, Join.{State, states_agree}, TableMeaning.{Rises, TableMeaning, TablesAgree, IsFirstConflict}, Passes.{met, first_met}}
use Rattle.t1_join.proofs.{Sorted.{both_true, make_both, is_lt_from}, Merges.{Below-less, below_tied, find_below}}

-- at each key the states agree, or k is the smallest at which they do not
abbrev pub Says : {K : Type 0} → (K → K → Ordering) → (K → Bool) → Option K → Type 0
Says {K} R agree None = (q : K) → agree q ≡ true
Says {K} R agree (Some k) = (agree k ≡ false) × ((p : K) → R p k ≡ Less → agree p ≡ true)

-- two states agree where they are the same or one is absent
abbrev pub both_agree : {X : Type 0} → (X → X → Bool) → Option X → Option X → Bool
both_agree same None y = true
both_agree same (Some v) None = true
both_agree same (Some v) (Some w) = same v w

module _ {K X : Type 0} {R : K → K → Ordering} (o : IsTotalOrder R) (same : X → X → Bool) where
  abbrev agree_at : List (K × X) → List (K × X) → K → Bool
  agree_at es fs q = both_agree same (find R q es) (find R q fs)

  nothing_right : (y : Option X) → both_agree same y None ≡ true
  nothing_right None = refl
  nothing_right (Some v) = refl

  by_case : (b : Bool) (P : Bool → Type 0) → (b ≡ true → P true) → (b ≡ false → P false) → P b
  by_case true P f g = f refl
  by_case false P f g = g refl

  tied : (r : Ordering) → is_eq r ≡ true → r ≡ Equal
  tied Less h = absurd (subst T (sym h) tt)
  tied Equal h = refl
  tied Greater h = absurd (subst T (sym h) tt)

  carried : (a b : K → Bool) (r : Option K) → ((q : K) → a q ≡ b q) → Says R b r → Says R a r
  carried a b None e h = λ q. e q ∙ h q
  carried a b (Some k) e h = (e k ∙ h.0, λ p l. e p ∙ h.1 p l)

  -- the first entry is met rightly if the others are
  says_met : (e : K × X) (es fs : List (K × X)) → T (below_all R e.0 es) → Rises R fs →
      ((gs : List (K × X)) → Rises R gs → Says R (agree_at es gs) (first_met R same es gs)) →
      Says R (agree_at (e ∷ es) fs) (met R same e (first_met R same es) fs)
  says_met e es [] b h k = λ q. nothing_right (find R q (e ∷ es))
  says_met e es (f ∷ fs) b h k =
      let fb = (both_true _ _ h).0 in
      let fr = (both_true _ _ h).1 in
      elim (R e.0 f.0) as (λ r. R e.0 f.0 ≡ r → Says R (agree_at (e ∷ es) (f ∷ fs))
      (by_order r (first_met R same es (f ∷ fs)) (cond (same e.1 f.1) (first_met R same es fs) (Some e.0)) (met R same e (first_met R same es) fs))) [
        | Less ↦ λ p. carried _ _ _ (λ q. by_case (is_eq (R q e.0))
            (λ t. both_agree same (cond t (Some e.1) (find R q es)) (find R q (f ∷ fs)) ≡ both_agree same (find R q es) (find R q (f ∷ fs)))
            (λ t. let none = find_below o q (f ∷ fs)
            (make_both _ _ (is_lt_from (o.congr q e.0 f.0 (tied _ t) ∙ p)) (below_tied o q e.0 fs (tied _ t) (Below-less o e.0 f.0 fs p fb))) in
            (λ i. both_agree same (Some e.1) (none i)) ∙ (λ i. both_agree same (sym (find_below o q es (below_tied o q e.0 es (tied _ t) b)) i) (sym none i)))
            (λ t. refl)) (k (f ∷ fs) h)
        | Greater ↦ λ p.
            let less : R f.0 e.0 ≡ Less = o.antisymm f.0 e.0 ∙ ap ordering_reverse p in
            carried _ _ _ (λ q. by_case (is_eq (R q f.0))
            (λ t. both_agree same (find R q (e ∷ es)) (cond t (Some f.1) (find R q fs)) ≡ both_agree same (find R q (e ∷ es)) (find R q fs))
            (λ t. let none = find_below o q (e ∷ es)
            (make_both _ _ (is_lt_from (o.congr q f.0 e.0 (tied _ t) ∙ less)) (below_tied o q f.0 es (tied _ t) (Below-less o f.0 e.0 es less b))) in
            (λ i. both_agree same (none i) (Some f.1)) ∙ (λ i. both_agree same (sym none i) (find R q fs)))
            (λ t. refl)) (says_met e es fs b fr k)
        | Equal ↦ λ p.
            let fb' = below_tied o e.0 f.0 fs p fb in
            let here : (q : K) (t : Bool) → is_eq (R q e.0) ≡ t → both_agree same (find R q (e ∷ es)) (find R q (f ∷ fs))
            ≡ both_agree same (cond t (Some e.1) (find R q es)) (cond t (Some f.1) (find R q fs)) = λ q t s. (λ i. both_agree same
            (cond (s i) (Some e.1) (find R q es)) (cond ((ap is_eq (sym (alike_right o e.0 f.0 q p)) ∙ s) i) (Some f.1) (find R q fs))) in
            by_case (same e.1 f.1) (λ w. Says R (agree_at (e ∷ es) (f ∷ fs)) (cond w (first_met R same es fs) (Some e.0)))
            (λ w. carried _ _ _ (λ q. by_case (is_eq (R q e.0)) (λ _. agree_at (e ∷ es) (f ∷ fs) q ≡ agree_at es fs q) (λ t. here q true t ∙ w
            ∙ (λ i. both_agree same (sym (find_below o q es (below_tied o q e.0 es (tied _ t) b)) i) (find R q fs))) (λ t. here q false t)) (k fs fr))
            (λ w. (
              here e.0 true (ap is_eq (tied_itself o e.0))
                  ∙ w,
              λ q l. here q false (ap is_eq l) ∙ ap (λ (y : Option X). both_agree same y (find R q fs)) (find_below o q es (Below-less o q e.0 es l b)),
            ))
      ] refl

  -- and so for the whole of both
  pub says_first : (es fs : List (K × X)) → Rises R es → Rises R fs → Says R (agree_at es fs) (first_met R same es fs)
  says_first [] fs g h = λ q. refl
  says_first (e ∷ es) fs g h = says_met e es fs (both_true _ _ g).0 h (λ gs k. says_first es gs (both_true _ _ g).1 k)

-- ---- the same of tables

alike : (x y : State) → both_agree same_meaning x y ≡ states_agree x y
alike None y = refl
alike (Some v) None = refl
alike (Some v) (Some w) = refl

module _ (m n : TableMeaning) where
  abbrev agreed_at : Meaning → Bool
  agreed_at q = both_agree same_meaning (find meaning_cmp q (entries m)) (find meaning_cmp q (entries n))

  agreed : (q : Meaning) → states_agree (get m q) (get n q) ≡ agreed_at q
  agreed q = (λ i. states_agree (get-entries m q i) (get-entries n q i)) ∙ sym (alike (find meaning_cmp q (entries m)) (find meaning_cmp q (entries n)))

  told : (r : Option Meaning) → r ≡ first_met meaning_cmp same_meaning (entries m) (entries n) → Says meaning_cmp agreed_at r
  told r is = subst (Says meaning_cmp agreed_at) (sym is)
      (says_first nat_list_cmp_total same_meaning (entries m) (entries n) (entries_sorted m) (entries_sorted n))

  -- where the pass over two tables meets nothing, they join
  pub no_conflict : None ≡ first_met meaning_cmp same_meaning (entries m) (entries n) → TablesAgree m n
  no_conflict is = λ q. agreed q ∙ told None is q

  -- what it meets is their first conflict
  pub conflict_is : (k : Meaning) → Some k ≡ first_met meaning_cmp same_meaning (entries m) (entries n) → IsFirstConflict m n k
  conflict_is k is =
      let says = told (Some k) is in
      record { differs = λ a. true≢false (sym a ∙ agreed k ∙ says.0); first = λ p l. agreed p ∙ says.1 p l }
