-- What holds of each entry of a map, and a pass over the entries that asks for it.
use Rattle.std.proofs.Common.{◌≡◌, cond, List, [], ◌∷◌, Some, sym, subst, ap, ◌∙◌, inl, inr}
use Rattle.std.specs.{Ordering.{eq_by_cmp}, declared.cmp.Ordering.{Ordering}, Cmp.{Equal-is}, List.{AllByRecursion}, FinMap.{FinMap, IsAntisymmetric, find, get, get-entries, entries}}
use Rattle.t1_font.proofs.MapLemmas.{is_or_not, Some_same, Some_None}

module _ {K X : Type 0} {R : K → K → Ordering} (same : IsAntisymmetric R) (P : K → X → Type 0) where
  found_each : (es : List (K × X)) → AllByRecursion (λ e. P e.0 e.1) es → (k : K) (v : X) → find R k es ≡ Some v → P k v
  found_each [] all k v is = Some_None (sym is)
  found_each (e ∷ es) all k v is = elim (is_or_not (eq_by_cmp R k e.0)) as (λ _. P k v) [
    | inl t ↦ let key : k ≡ e.0 = same k e.0 ((Equal-is (R k e.0)).0 t) in
        let value : e.1 ≡ v = Some_same (sym (ap (λ b. cond b (Some e.1) (find R k es)) t) ∙ is) in
        subst (λ q. P q v) (sym key) (subst (P e.0) value all.0)
    | inr f ↦ found_each es all.1 k v (sym (ap (λ b. cond b (Some e.1) (find R k es)) f) ∙ is)
  ]

  -- what holds of each entry holds at each key
  pub each_value : (m : FinMap R X) → AllByRecursion (λ e. P e.0 e.1) (entries m) → (k : K) (v : X) → get m k ≡ Some v → P k v
  each_value m all k v is = found_each (entries m) all k v (sym (get-entries m k) ∙ is)

module _ {E : Type 0} (P : E → Type 0) where
  -- it holds of all where it holds of those that are left
  pub record AsLeft (all rest : List E) : Type 0 where
    pub all_so : AllByRecursion P rest → AllByRecursion P all
    pub rest_so : AllByRecursion P all → AllByRecursion P rest

  -- all are left at first
  pub all_left : (all rest : List E) → rest ≡ all → AsLeft all rest
  all_left all rest is = record { all_so = λ h. subst (AllByRecursion P) is h; rest_so = λ h. subst (AllByRecursion P) (sym is) h }

  -- it holds of one more
  pub one_holds : (all rest next : List E) (e : E) → rest ≡ e ∷ next → P e → AsLeft all rest → AsLeft all next
  one_holds all rest next e is h s = record {
    all_so = λ n. s.all_so (subst (AllByRecursion P) (sym is) (h, n));
    rest_so = λ a. (subst (AllByRecursion P) is (s.rest_so a)).1;
  }

  -- it doesn't hold of one
  pub one_fails : (all rest next : List E) (e : E) → rest ≡ e ∷ next → AsLeft all rest → AllByRecursion P all → P e
  one_fails all rest next e is s a = (subst (AllByRecursion P) is (s.rest_so a)).0

  -- none are left
  pub all_hold : (all rest : List E) → rest ≡ [] → AsLeft all rest → AllByRecursion P all
  all_hold all rest is s = s.all_so (subst (AllByRecursion P) (sym is) tt)
