-- The keys that pass a test: two sets of keys that have each of these have the same of them, upwards.
use Rattle.std.proofs.lemmas.Bool.{cases_Bool, and_from}
use Rattle.std.proofs.Common.{arith, ◌≡◌, ◌<◌, ◌≤◌, ◌+◌, ℕ, zero, suc, Bool, true, false, cond, ◌&&◌, ◌||◌, T, List, [], ◌∷◌, map, filter, inl, inr, refl, sym, ◌∙◌, ap, subst, Some, None, Ordering}
use Rattle.std.proofs.Common.{is_lt, nat_cmp}
use Rattle.std.specs.{List.{list_any}, Ordering.{eq_by_cmp}, Cmp.{IsTotalOrder, first_so, second_so}, FinSet.{IsAntisymmetric}, FinMap.Entries.{below_all, is_sorted}}
use Rattle.t1_font.{specs.Maps.{map_values}, proofs.MapLemmas.{T_true, entries-map_values}}
use Rattle.t1_algebra.proofs.Sets.{tied, cases}
use Rattle.std.specs.FinMap as maps

abbrev zero_value : ℕ
zero_value = 0

-- keys as entries
abbrev pub unit_entries : {K : Type 0} → List K → List (K × ℕ)
unit_entries ks = map (λ k. (k, zero_value)) ks

-- the keys stand upwards
abbrev pub KeysRise : {K : Type 0} → (K → K → Ordering) → List K → Type 0
KeysRise R ks = is_sorted R (unit_entries ks) ≡ true

unit_keys : {K : Type 0} (ks : List K) → map (λ e. e.0) (unit_entries ks) ≡ ks
unit_keys [] = refl
unit_keys (k ∷ ks) = ap (λ js. k ∷ js) (unit_keys ks)

module _ {K : Type 0} {R : K → K → Ordering} (o : IsTotalOrder R) (same : IsAntisymmetric R) where
  -- the keys of a map stand upwards
  pub keys_rise : {X : Type 0} (m : maps.FinMap R X) → KeysRise R (maps.keys m)
  keys_rise {X = X} m =
      let n = map_values (λ k v. zero_value) m in
      let entries : maps.entries n ≡ unit_entries (maps.keys m) = entries-map_values o same (λ k v. zero_value) m ∙ by (maps.entries m) in
      sym (ap (is_sorted R) entries) ∙ T_true (is_sorted R (maps.entries n)) (maps.entries_sorted n)
    where
      by : (es : List (K × X)) → map (λ e. (e.0, zero_value)) es ≡ unit_entries (map (λ e. e.0) es)
      by [] = refl
      by (e ∷ es) = ap (λ ds. (e.0, zero_value) ∷ ds) (by es)

  -- a key is among the keys
  abbrev pub among : K → List K → Bool
  among q ks = list_any (eq_by_cmp R q) ks

  find_unit : (q : K) (ks : List K) → maps.find R q (unit_entries ks) ≡ cond (among q ks) (Some zero_value) None
  find_unit q [] = refl
  find_unit q (k ∷ ks) = let rest = find_unit q ks in grind (arith, cases_Bool (eq_by_cmp R q k), rest)

  module _ (p : K → Bool) where
    below_passing : (x : K) (ks : List K) → below_all R x (unit_entries ks) ≡ true → below_all R x (unit_entries (filter p ks)) ≡ true
    below_passing x [] h = refl
    below_passing x (k ∷ ks) h =
        let rest = below_passing x ks (second_so (is_lt (R x k)) (below_all R x (unit_entries ks)) h) in
        elim (p k) as (λ b. below_all R x (unit_entries (cond b (k ∷ filter p ks) (filter p ks))) ≡ true)
        [ true ↦ and_from (is_lt (R x k)) _ (first_so (is_lt (R x k)) (below_all R x (unit_entries ks)) h) rest | false ↦ rest ]

    passing_rise : (ks : List K) → KeysRise R ks → KeysRise R (filter p ks)
    passing_rise [] h = refl
    passing_rise (k ∷ ks) h =
        let rest = passing_rise ks (second_so (below_all R k (unit_entries ks)) (is_sorted R (unit_entries ks)) h) in
        let below = below_passing k ks (first_so (below_all R k (unit_entries ks)) (is_sorted R (unit_entries ks)) h) in
        elim (p k) as (λ b. is_sorted R (unit_entries (cond b (k ∷ filter p ks) (filter p ks))) ≡ true)
        [ true ↦ and_from (below_all R k (unit_entries (filter p ks))) _ below rest | false ↦ rest ]

    -- a key is among those that pass if it passes and is among all
    among_passing : (q : K) (ks : List K) → among q (filter p ks) ≡ (p q && among q ks)
    among_passing q [] = grind (cases)
    among_passing q (k ∷ ks) = let rest = among_passing q ks in grind (cases, rest, tied o same q k)

    module _ (js ks : List K) (hj : KeysRise R js) (hk : KeysRise R ks) (both : (q : K) → p q ≡ true → among q js ≡ among q ks) where
      abbrev unit_map : List K → maps.FinMap R ℕ
      unit_map ls = maps.from_sorted (unit_entries (filter p ls))

      rises : (ls : List K) → KeysRise R ls → T (is_sorted R (unit_entries (filter p ls)))
      rises ls h = subst T (sym (passing_rise ls h)) tt

      at : (q : K) (ls : List K) → KeysRise R ls → maps.get (unit_map ls) q ≡ cond (p q && among q ls) (Some zero_value) None
      at q ls h = maps.get-from_sorted R (unit_entries (filter p ls)) q (rises ls h)
          ∙ find_unit q (filter p ls) ∙ ap (λ b. cond b (Some zero_value) None) (among_passing q ls)

      alike : unit_map js ≡ unit_map ks
      alike = maps.same_map o same (unit_map js) (unit_map ks) (λ q. at q js hj ∙ by q (p q) refl ∙ sym (at q ks hk))
        where
          by : (q : K) (b : Bool) → p q ≡ b → cond (p q && among q js) (Some zero_value) None ≡ cond (p q && among q ks) (Some zero_value) None
          by q true h = ap (λ b. cond (p q && b) (Some zero_value) None) (both q h)
          by q false h = ap (λ b. cond (b && among q js) (Some zero_value) None) h ∙ sym (ap (λ b. cond (b && among q ks) (Some zero_value) None) h)

      keys_of : (ls : List K) → KeysRise R ls → maps.keys (unit_map ls) ≡ filter p ls
      keys_of ls h = ap (map (λ e. e.0)) (maps.entries-from_sorted R (unit_entries (filter p ls)) (rises ls h)) ∙ unit_keys (filter p ls)

      -- two lists of keys that have each key that passes have the same of these, upwards
      pub passing_same : filter p js ≡ filter p ks
      passing_same = sym (keys_of js hj) ∙ ap (λ (m : maps.FinMap R ℕ). maps.keys m) alike ∙ keys_of ks hk

    -- the same of the keys of two maps
    pub passing_keys : {X Y : Type 0} (m : maps.FinMap R X) (n : maps.FinMap R Y) →
        ((q : K) → p q ≡ true → maps.contains_key m q ≡ maps.contains_key n q) → filter p (maps.keys m) ≡ filter p (maps.keys n)
    passing_keys m n both = passing_same (maps.keys m) (maps.keys n) (keys_rise m) (keys_rise n)
        (λ q h. sym (maps.contains_key-keys m q) ∙ both q h ∙ maps.contains_key-keys n q)

-- ---- numbers

-- the numbers from one on, as many as this
abbrev pub numbers_from : ℕ → ℕ → List ℕ
numbers_from a zero = []
numbers_from a (suc n) = a ∷ numbers_from (a + 1) n

module _ where
  below_numbers : (k a n : ℕ) → k < a → below_all nat_cmp k (unit_entries (numbers_from a n)) ≡ true
  below_numbers k a zero l = refl
  below_numbers k a (suc n) l = and_from (is_lt (nat_cmp k a)) _ (less k a l) (below_numbers k (a + 1) n (omega (arith, l)))
    where
      less : (k a : ℕ) → k < a → is_lt (nat_cmp k a) ≡ true
      less k a l = grind (arith, l)

  -- numbers from one on stand upwards
  pub numbers_rise : (a n : ℕ) → KeysRise nat_cmp (numbers_from a n)
  numbers_rise a zero = refl
  numbers_rise a (suc n) = and_from _ _ (below_numbers a (a + 1) n (omega arith)) (numbers_rise (a + 1) n)

  -- a number is among them if it is in their range
  pub number_among : (q a n : ℕ) → a ≤ q → q < a + n → list_any (eq_by_cmp nat_cmp q) (numbers_from a n) ≡ true
  number_among q a zero l h = absurd (omega (arith, l, h))
  number_among q a (suc n) l h = elim (cases_Bool (eq_by_cmp nat_cmp q a)) [
    | inl t ↦ ap (λ b. b || list_any (eq_by_cmp nat_cmp q) (numbers_from (a + 1) n)) t
    | inr f ↦ ap (λ b. b || list_any (eq_by_cmp nat_cmp q) (numbers_from (a + 1) n)) f ∙ number_among q (a + 1) n (omega (arith, apart f)) (omega (arith, h))
  ]
    where
      apart : eq_by_cmp nat_cmp q a ≡ false → a < q
      apart f = grind (arith, l, f)
