-- The entries of cut and joined maps, as lists.
use Rattle.std.proofs.Common.{◌≡◌, ℕ, Ordering, Bool, cond, List, [], ◌∷◌, ◌++◌, Option, Some, None, unwrap_or, refl, sym, ap, ◌∙◌}
use Rattle.std.specs.{Prelude.{filter}, List.{AllByRecursion}, Ordering.{is_eq}, Cmp.{IsTotalOrder}, FinSet.{IsAntisymmetric}}
use Rattle.std.specs.{FinMap.{FinMap, get, entries, entries_sorted, retain_keys, get-entries, same_map}, FinMap.Entries.{same_entries, is_sorted-where_key, find-where_key}}
use Rattle.t1_grammar.specs.Grammar.{choice}
use Rattle.t1_font.specs.Maps.{merged}
use Rattle.t1_text.specs.Entries.{last_entries, last_value, map_of}
use Rattle.t1_font.proofs.{MapLemmas.{joined, get-merged, get-retain, entries_all}, canonical.FontAgain.{last_again}}
use Rattle.t1_text.proofs.MapLaws.{get-map_of, entries-map_of}

module _ {K : Type 0} {R : K → K → Ordering} (o : IsTotalOrder R) (same : IsAntisymmetric R) where
  module _ {X : Type 0} where
    -- the entries whose keys pass
    pub entries-retain : (m : FinMap R X) (p : K → Bool) → entries (retain_keys m p) ≡ filter (λ e. p e.0) (entries m)
    entries-retain m p = same_entries R o same (entries (retain_keys m p)) (filter (λ e. p e.0) (entries m))
        (entries_sorted (retain_keys m p)) (is_sorted-where_key R p (entries m) (entries_sorted m)) (λ q.
        sym (get-entries (retain_keys m p) q)
        ∙ (get-retain o same m p q ∙ (ap (λ v. cond (p q) v None) (get-entries m q) ∙ sym (find-where_key R p q (λ x t. ap p (sym (same q x t))) (entries m)))))

    filter_alike : (p q : K × X → Bool) (es : List (K × X)) → AllByRecursion (λ e. p e ≡ q e) es → filter p es ≡ filter q es
    filter_alike p q [] h = refl
    filter_alike p q (e ∷ es) h = λ i. cond (h.0 i) (e ∷ filter_alike p q es h.1 i) (filter_alike p q es h.1 i)

    -- the entries whose values pass
    pub entries-retain_values : (m : FinMap R X) (p : X → Bool) (d : X) →
        entries (retain_keys m (λ k. p (unwrap_or (get m k) d))) ≡ filter (λ e. p e.1) (entries m)
    entries-retain_values m p d = entries-retain m (λ k. p (unwrap_or (get m k) d)) ∙ filter_alike (λ e. p (unwrap_or (get m e.0) d))
        (λ e. p e.1) (entries m) (entries_all o same (λ k v. p (unwrap_or (get m k) d) ≡ p v) m (λ k v e. ap (λ x. p (unwrap_or x d)) e))

  last-append : (q : K) (es fs : List (K × List ℕ)) → last_value R q (es ++ fs) ≡ choice (last_value R q fs) (last_value R q es)
  last-append q [] fs = by_value (last_value R q fs)
    where
      by_value : (v : Option (List ℕ)) → v ≡ choice v None
      by_value None = refl
      by_value (Some x) = refl
  last-append q (e ∷ es) fs = ap (λ x. choice x (cond (is_eq (R q e.0)) (Some e.1) None)) (last-append q es fs)
      ∙ regrouped (last_value R q fs) (last_value R q es) (cond (is_eq (R q e.0)) (Some e.1) None)
    where
      regrouped : (a b c : Option (List ℕ)) → choice (choice a b) c ≡ choice a (choice b c)
      regrouped None b c = refl
      regrouped (Some x) b c = refl

  -- a join of maps puts the first map's entries last
  pub merged-is : (m n : FinMap R (List ℕ)) → merged m n ≡ map_of (entries n ++ entries m)
  merged-is m n = same_map o same (merged m n) (map_of (entries n ++ entries m)) (λ q.
      get-merged o same m n q ∙ ((λ i. either_way (sym (last_again o same m q) i) (sym (last_again o same n q) i) i)
      ∙ (sym (last-append q (entries n) (entries m)) ∙ sym (get-map_of o same (entries n ++ entries m) q))))
    where
      either_way : (a b : Option (List ℕ)) → joined a b ≡ choice a b
      either_way None b = refl
      either_way (Some x) b = refl

  pub entries-merged : (m n : FinMap R (List ℕ)) → entries (merged m n) ≡ last_entries R (entries n ++ entries m)
  entries-merged m n = ap entries (merged-is m n) ∙ entries-map_of o same (entries n ++ entries m)
