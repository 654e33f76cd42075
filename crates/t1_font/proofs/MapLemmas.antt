-- What `map_values` and `merged` have at a key, the entries of a map, and sums over entries.
use Rattle.std.proofs.Common.{◌≡◌, ℕ, ◌≤◌, Bool, true, false, cond, ◌&&◌, ◌⊎◌, Option, T, List, [], ◌∷◌, ◌++◌, map, refl, sym, ◌∙◌, ap, subst, true≢false, length, inl, inr, Some, None, is_some}
use Rattle.std.proofs.Common.{option_map, Ordering, Less, Equal, Greater, is_eq, is_lt, arith, unwrap_or}
use Rattle.std.specs.{Ordering.{eq_by_cmp, ordering_reverse}, Cmp.{IsTotalOrder, first_so, second_so, tied_itself, Equal-is}}
use Rattle.std.specs.{FinMap.{FinMap, get, entries, entries_sorted, retain_keys, find, is_sorted, get-from_entries, entries-from_sorted, get-entries, get-retain_keys}, FinSet.{IsAntisymmetric}}
use Rattle.std.specs.{FinMap.Entries.{below_all}, List.{AllByRecursion}}
use Rattle.t1_font.specs.{Maps.{map_values, merged}, FontValue.{total}}
use Rattle.t1_text.specs.Entries.{last_value}
use Rattle.t1_grammar.specs.Grammar.{choice}

and_so : (a b : Bool) → a ≡ true → b ≡ true → (a && b) ≡ true
and_so true b p q = q
and_so false b p q = p

pub is_or_not : (a : Bool) → (a ≡ true) ⊎ (a ≡ false)
is_or_not true = inl refl
is_or_not false = inr refl

-- the first of two values
abbrev pub joined : {V : Type 0} → Option V → Option V → Option V
joined None y = y
joined (Some v) y = Some v

pub T_true : (b : Bool) → T b → b ≡ true
T_true true h = refl
T_true false h = absurd h

less_of : (r : Ordering) → is_lt r ≡ true → r ≡ Less
less_of Less h = refl
less_of Equal h = absurd (true≢false (sym h))
less_of Greater h = absurd (true≢false (sym h))

pub Some_same : {X : Type 0} {x y : X} → Some x ≡ Some y → x ≡ y
Some_same {x = x} e = ap (λ o. unwrap_or o x) e

pub Some_None : {P X : Type 0} {x : X} → Some x ≡ None → P
Some_None e = absurd (true≢false (ap is_some e))

module _ {K : Type 0} {R : K → K → Ordering} (o : IsTotalOrder R) (same : IsAntisymmetric R) where
  module _ {X : Type 0} where
    below_more : (x y : K) (es : List (K × X)) → R x y ≡ Less → below_all R y es ≡ true → below_all R x es ≡ true
    below_more x y [] p h = refl
    below_more x y (e ∷ es) p h =
        and_so (is_lt (R x e.0)) (below_all R x es) (ap is_lt (o.trans x y e.0 p (less_of (R y e.0) (first_so (is_lt (R y e.0)) (below_all R y es) h))))
        (below_more x y es p (second_so (is_lt (R y e.0)) (below_all R y es) h))

    -- a key below all entries is not among them
    pub find_below : (q : K) (es : List (K × X)) → below_all R q es ≡ true → find R q es ≡ None
    find_below q [] h = refl
    find_below q (e ∷ es) h = ap (λ r. cond (is_eq r) (Some e.1) (find R q es)) (less_of (R q e.0) (first_so (is_lt (R q e.0)) (below_all R q es) h))
        ∙ find_below q es (second_so (is_lt (R q e.0)) (below_all R q es) h)

    -- the first entry is found at its key
    pub find_first : (e : K × X) (es : List (K × X)) → find R e.0 (e ∷ es) ≡ Some e.1
    find_first e es = ap (λ r. cond (is_eq r) (Some e.1) (find R e.0 es)) (tied_itself o e.0)

    -- a key that the rest has is not that of the first
    find_later : (q : K) (v : X) (e : K × X) (es : List (K × X)) → below_all R e.0 es ≡ true → find R q es ≡ Some v → eq_by_cmp R q e.0 ≡ false
    find_later q v e es b h = elim (is_or_not (eq_by_cmp R q e.0)) [
      | inl is ↦ Some_None (sym h ∙ ap (λ k. find R k es) (same q e.0 ((Equal-is (R q e.0)).0 is)) ∙ find_below e.0 es b)
      | inr is ↦ is
    ]

    -- what is found among the other entries is found among all
    pub find_rest : (q : K) (v : X) (e : K × X) (es : List (K × X)) → below_all R e.0 es ≡ true → find R q es ≡ Some v → find R q (e ∷ es) ≡ Some v
    find_rest q v e es b h = ap (λ t. cond t (Some e.1) (find R q es)) (find_later q v e es b h) ∙ h

    -- what is found in two lists, one after the other, is what the first has, else the second
    pub find_append : (q : K) (es fs : List (K × X)) → find R q (es ++ fs) ≡ joined (find R q es) (find R q fs)
    find_append q [] fs = refl
    find_append q (e ∷ es) fs = elim (eq_by_cmp R q e.0)
        as (λ b. cond b (Some e.1) (find R q (es ++ fs)) ≡ joined (cond b (Some e.1) (find R q es)) (find R q fs)) [ true ↦ refl | false ↦ find_append q es fs ]

    pub get-merged : (m n : FinMap R X) (q : K) → get (merged m n) q ≡ joined (get m q) (get n q)
    get-merged m n q = get-from_entries o (entries m ++ entries n) q ∙ find_append q (entries m) (entries n)
        ∙ ap (λ x. joined x (find R q (entries n))) (sym (get-entries m q)) ∙ ap (joined (get m q)) (sym (get-entries n q))

    -- a map that is cut to some keys has what it had at these
    pub get-retain : (m : FinMap R X) (p : K → Bool) (q : K) → get (retain_keys m p) q ≡ cond (p q) (get m q) None
    get-retain m p q = get-retain_keys m p q (λ x t. ap p (sym (same q x t)))

    -- what holds of what each key has holds of each entry
    found_all : (P : K → X → Type 0) (es : List (K × X)) → is_sorted R es ≡ true → ((k : K) (v : X) → find R k es ≡ Some v → P k v) →
        AllByRecursion (λ e. P e.0 e.1) es
    found_all P [] s h = tt
    found_all P (e ∷ es) s h = (
      h e.0 e.1 (find_first e es),
      found_all P es (second_so (below_all R e.0 es) (is_sorted R es) s)
          (λ k v is. h k v (find_rest k v e es (first_so (below_all R e.0 es) (is_sorted R es) s) is)),
    )

    -- what holds at each key holds of each entry
    pub entries_all : (P : K → X → Type 0) (m : FinMap R X) → ((k : K) (v : X) → get m k ≡ Some v → P k v) → AllByRecursion (λ e. P e.0 e.1) (entries m)
    entries_all P m h = found_all P (entries m) (T_true (is_sorted R (entries m)) (entries_sorted m)) (λ k v is. h k v (get-entries m k ∙ is))

  -- in a sorted list the last value of a key is the only one
  pub last-sorted : (q : K) (es : List (K × List ℕ)) → is_sorted R es ≡ true → last_value R q es ≡ find R q es
  last-sorted q [] s = refl
  last-sorted q (e ∷ es) s = ap (λ x. choice x (cond (is_eq (R q e.0)) (Some e.1) None)) (last-sorted q es (second_so (below_all R e.0 es) (is_sorted R es) s))
      ∙ by_key (is_eq (R q e.0)) refl
    where
      by_rest : (v : Option (List ℕ)) → choice v None ≡ v
      by_rest None = refl
      by_rest (Some x) = refl

      by_key : (b : Bool) → is_eq (R q e.0) ≡ b → choice (find R q es) (cond b (Some e.1) None) ≡ cond b (Some e.1) (find R q es)
      by_key true t =
          let none : find R q es ≡ None =
          ap (λ k. find R k es) (same q e.0 ((Equal-is (R q e.0)).0 t)) ∙ find_below e.0 es (first_so (below_all R e.0 es) (is_sorted R es) s) in
          rw none refl
      by_key false t = by_rest (find R q es)

  module _ {X Y : Type 0} (f : K → X → Y) where
    abbrev valued : List (K × X) → List (K × Y)
    valued es = map (λ e. (e.0, f e.0 e.1)) es

    below_valued : (k : K) (es : List (K × X)) → below_all R k (valued es) ≡ below_all R k es
    below_valued k [] = refl
    below_valued k (e ∷ es) = ap (λ b. is_lt (R k e.0) && b) (below_valued k es)

    sorted_valued : (es : List (K × X)) → is_sorted R (valued es) ≡ is_sorted R es
    sorted_valued [] = refl
    sorted_valued (e ∷ es) = λ i. below_valued e.0 es i && sorted_valued es i

    -- the entries of a map with other values are its entries with these values
    pub entries-map_values : (m : FinMap R X) → entries (map_values f m) ≡ valued (entries m)
    entries-map_values m = entries-from_sorted R (valued (entries m)) (subst T (sym (sorted_valued (entries m))) (entries_sorted m))

    find_valued : (q : K) (es : List (K × X)) → find R q (valued es) ≡ option_map (f q) (find R q es)
    find_valued q [] = refl
    find_valued q (e ∷ es) =
        elim (eq_by_cmp R q e.0)
        as (λ b. eq_by_cmp R q e.0 ≡ b → cond b (Some (f e.0 e.1)) (find R q (valued es)) ≡ option_map (f q) (cond b (Some e.1) (find R q es))) [
          | true ↦ λ t. ap (λ k. Some (f k e.1)) (sym (same q e.0 ((Equal-is (R q e.0)).0 t)))
          | false ↦ λ t. find_valued q es
        ] refl

    pub get-map_values : (m : FinMap R X) (q : K) → get (map_values f m) q ≡ option_map (f q) (get m q)
    get-map_values m q =
        get-entries (map_values f m) q ∙ ap (find R q) (entries-map_values m) ∙ find_valued q (entries m) ∙ ap (option_map (f q)) (sym (get-entries m q))

  -- ---- sums

  module _ {X : Type 0} (f g : K → X → ℕ) where
    -- each entry of es is at its key in fs, and weighs no more there
    abbrev pub Below : List (K × X) → List (K × X) → Type 0
    Below es fs = (q : K) (v : X) → find R q es ≡ Some v → (w : X) × (find R q fs ≡ Some w) × (f q v ≤ g q w)

    -- a sum over entries of which each is at another's key with a larger summand is no larger
    pub total_le : (es fs : List (K × X)) → is_sorted R es ≡ true → is_sorted R fs ≡ true → Below es fs → total f es ≤ total g fs
    total_le [] fs s t h = omega arith
    total_le (e ∷ es) [] s t h = Some_None (sym (h e.0 e.1 (find_first e es)).1)
    total_le (e ∷ es) (d ∷ fs) s t h =
        let se = first_so (below_all R e.0 es) (is_sorted R es) s in
        let sd = first_so (below_all R d.0 fs) (is_sorted R fs) t in
        let here = h e.0 e.1 (find_first e es) in
        elim (R e.0 d.0) as (λ r. R e.0 d.0 ≡ r → total f (e ∷ es) ≤ total g (d ∷ fs)) [
          | Less ↦ λ p.
              Some_None (sym here.1 ∙ find_below e.0 (d ∷ fs) (and_so (is_lt (R e.0 d.0)) (below_all R e.0 fs) (ap is_lt p) (below_more e.0 d.0 fs p sd)))
          | Equal ↦ λ p.
              let keys = same e.0 d.0 p in
              let value : here.0 ≡ d.1 = Some_same (sym here.1 ∙ ap (λ k. find R k (d ∷ fs)) keys ∙ find_first d fs) in
              let first : f e.0 e.1 ≤ g d.0 d.1 = subst (λ (k : K). f e.0 e.1 ≤ g k d.1) keys (subst (λ (w : X). f e.0 e.1 ≤ g e.0 w) value here.2) in
              let rest : total f es ≤ total g fs =
              total_le es fs (second_so (below_all R e.0 es) (is_sorted R es) s) (second_so (below_all R d.0 fs) (is_sorted R fs) t) (λ q v is.
              let r = h q v (find_rest q v e es se is) in
              (r.0, sym (ap (λ b. cond b (Some d.1) (find R q fs)) (ap (λ k. eq_by_cmp R q k) (sym keys) ∙ find_later q v e es se is)) ∙ r.1, r.2)) in
              omega arith
          | Greater ↦ λ p.
              let back : R d.0 e.0 ≡ Less = o.antisymm d.0 e.0 ∙ ap ordering_reverse p in
              let none : find R d.0 (e ∷ es) ≡ None =
              find_below d.0 (e ∷ es) (and_so (is_lt (R d.0 e.0)) (below_all R d.0 es) (ap is_lt back) (below_more d.0 e.0 es back se)) in
              let rest : total f (e ∷ es) ≤ total g fs = total_le (e ∷ es) fs s (second_so (below_all R d.0 fs) (is_sorted R fs) t) (λ q v is.
              let r = h q v is in
              elim (is_or_not (eq_by_cmp R q d.0)) [
                | inl a ↦ Some_None (sym is ∙ ap (λ k. find R k (e ∷ es)) (same q d.0 ((Equal-is (R q d.0)).0 a)) ∙ none)
                | inr b ↦ (r.0, sym (ap (λ b. cond b (Some d.1) (find R q fs)) b) ∙ r.1, r.2)
              ]) in
              omega arith
        ] refl

    -- the same of the entries of maps
    pub total-le : (m n : FinMap R X) → ((q : K) (v : X) → get m q ≡ Some v → (w : X) × (get n q ≡ Some w) × (f q v ≤ g q w)) →
        total f (entries m) ≤ total g (entries n)
    total-le m n h = total_le (entries m) (entries n) (T_true (is_sorted R (entries m)) (entries_sorted m))
        (T_true (is_sorted R (entries n)) (entries_sorted n)) (λ q v is. let r = h q v (get-entries m q ∙ is) in (r.0, sym (get-entries n q) ∙ r.1, r.2))

-- the length of a list is the sum of ones
pub length_total : {K X : Type 0} (es : List (K × X)) → total (λ k x. 1) es ≡ length es
length_total [] = refl
length_total (e ∷ es) = omega (arith, length_total es)
