-- The maps of a font's entries: each key has its last value.
use Rattle.std.proofs.{Common.{◌≡◌, ℕ, ◌++◌, Bool, true, false, cond, ◌&&◌, T, List, [], ◌∷◌, length, Option, Some, None, refl, sym, ap, ◌∙◌, inl, inr}, lemmas.Bool.{cases_Bool}}
use Rattle.std.specs.{Prelude.{filter}, Ordering.{is_lt, is_eq}, declared.cmp.Ordering.{Ordering}, declared.cmp.Ordering.TheVariants.{Less, Equal, Greater}, Cmp.{IsTotalOrder, Equal-is}}
use Rattle.std.specs.{FinSet.{IsAntisymmetric}, FinMap.Entries.{below_all, is_sorted-put, find-put}}
use Rattle.t1_grammar.specs.Grammar.{choice}
use Rattle.t1_text.specs.Entries.{put_all, last_entries, map_of, has_name, last_names, names_of, last_value, unless_notdef}
use Rattle.std.specs.FinMap as maps

pub and_T : (a b : Bool) → T a → T b → T (a && b)
and_T true b p q = q
and_T false b p q = p

pub left_T : (a b : Bool) → T (a && b) → T a
left_T true b h = tt
left_T false b h = h

pub right_T : (a b : Bool) → T (a && b) → T b
right_T true b h = h
right_T false b h = absurd h

pub less_apart : (o : Ordering) → T (is_lt o) → is_eq o ≡ false
less_apart Less h = refl
less_apart Equal h = absurd h
less_apart Greater h = refl

regroup : (o : Option (List ℕ)) (b : Bool) (v : List ℕ) (rest : Option (List ℕ)) →
    choice o (cond b (Some v) rest) ≡ choice (choice o (cond b (Some v) None)) rest
regroup (Some x) b v rest = refl
regroup None true v rest = refl
regroup None false v rest = refl

pub choice-none : {X : Type 0} (o : Option X) → choice o None ≡ o
choice-none (Some x) = refl
choice-none None = refl

module _ {K : Type 0} {R : K → K → Ordering} (o : IsTotalOrder R) (same : IsAntisymmetric R) where
  -- the keys rise
  abbrev pub IsSorted : List (K × List ℕ) → Type 0
  IsSorted es = T (maps.is_sorted R es)

  -- entries put one after another into sorted ones are sorted
  pub put_all_sorted : (es into : List (K × List ℕ)) → IsSorted into → IsSorted (put_all R es into)
  put_all_sorted [] into h = h
  put_all_sorted (e ∷ es) into h = put_all_sorted es (maps.put R e.0 e.1 into) (is_sorted-put R o e.0 e.1 into h)

  -- the last entries are sorted
  pub last_sorted : (es : List (K × List ℕ)) → IsSorted (last_entries R es)
  last_sorted es = put_all_sorted es [] tt

  find_put_all : (q : K) (es into : List (K × List ℕ)) → maps.find R q (put_all R es into) ≡ choice (last_value R q es) (maps.find R q into)
  find_put_all q [] into = refl
  find_put_all q (e ∷ es) into =
      find_put_all q es (maps.put R e.0 e.1 into)
      ∙ (ap (choice (last_value R q es)) (find-put R o q e.0 e.1 into) ∙ regroup (last_value R q es) (is_eq (R q e.0)) e.1 (maps.find R q into))

  -- the last entries have the last value of each key
  pub find-last : (q : K) (es : List (K × List ℕ)) → maps.find R q (last_entries R es) ≡ last_value R q es
  find-last q es = find_put_all q es [] ∙ choice-none (last_value R q es)

  -- the entries of the map are the last ones
  pub entries-map_of : (es : List (K × List ℕ)) → maps.entries {R = R} (map_of es) ≡ last_entries R es
  entries-map_of es = maps.entries-from_sorted R (last_entries R es) (last_sorted es)

  -- of a repeated key the last value stands
  pub get-map_of : (es : List (K × List ℕ)) (q : K) → maps.get {R = R} (map_of es) q ≡ last_value R q es
  get-map_of es q = maps.get-from_sorted R (last_entries R es) q (last_sorted es) ∙ find-last q es

  -- the map has as many keys as there are last entries
  pub len-map_of : (es : List (K × List ℕ)) → maps.len {R = R} (map_of es) ≡ length (last_entries R es)
  len-map_of es = maps.len-entries {R = R} (map_of es) ∙ ap length (entries-map_of es)

  -- ---- entries whose values pass a test

  below_filter : (x : K) (p : K × List ℕ → Bool) (es : List (K × List ℕ)) → T (below_all R x es) → T (below_all R x (filter p es))
  below_filter x p [] h = tt
  below_filter x p (e ∷ es) h =
      let rest = below_filter x p es (right_T _ _ h) in
      elim (p e) as (λ b. T (below_all R x (cond b (e ∷ filter p es) (filter p es)))) [ true ↦ and_T _ _ (left_T _ _ h) rest | false ↦ rest ]

  -- some of sorted entries are sorted
  pub sorted_filter : (p : K × List ℕ → Bool) (es : List (K × List ℕ)) → IsSorted es → IsSorted (filter p es)
  sorted_filter p [] h = tt
  sorted_filter p (e ∷ es) h =
      let rest = sorted_filter p es (right_T _ _ h) in
      elim (p e) as (λ b. IsSorted (cond b (e ∷ filter p es) (filter p es))) [ true ↦ and_T _ _ (below_filter e.0 p es (left_T _ _ h)) rest | false ↦ rest ]

  find_below : (k : K) (es : List (K × List ℕ)) → T (below_all R k es) → maps.find R k es ≡ None
  find_below k [] h = refl
  find_below k (e ∷ es) h = rw (less_apart (R k e.0) (left_T _ _ h)) (find_below k es (right_T _ _ h))

  -- the last names of codes are sorted
  pub names_sorted : (es : List (K × List ℕ)) → IsSorted (last_names R es)
  names_sorted es = sorted_filter has_name (last_entries R es) (last_sorted es)

  same_key : (q k : K) → is_eq (R q k) ≡ true → q ≡ k
  same_key q k e = same q k ((Equal-is (R q k)).0 e)

  -- a code has its last name, and none where that is `.notdef`
  find_names : (q : K) (es : List (K × List ℕ)) → IsSorted es → maps.find R q (filter has_name es) ≡ unless_notdef (maps.find R q es)
  find_names q [] h = refl
  find_names q (e ∷ es) h =
      let rest = find_names q es (right_T _ _ h) in
      elim (cases_Bool (has_name e)) [
        | inl n ↦ elim (cases_Bool (is_eq (R q e.0))) [
          | inl t ↦ rw (n, t) (rw n refl)
          | inr t ↦ rw (n, t) rest
        ]
        | inr n ↦ elim (cases_Bool (is_eq (R q e.0))) [
          | inl t ↦ rw (n, t) (rest ∙ (ap unless_notdef (ap (λ k. maps.find R k es) (same_key q e.0 t) ∙ find_below e.0 es (left_T _ _ h)) ∙ rw n refl))
          | inr t ↦ rw (n, t) rest
        ]
      ]

  -- the last put on a code stands; `.notdef` means none
  pub get-names_of : (es : List (K × List ℕ)) (q : K) → maps.get {R = R} (names_of es) q ≡ unless_notdef (last_value R q es)
  get-names_of es q =
      maps.get-from_sorted R (last_names R es) q (names_sorted es) ∙ (find_names q (last_entries R es) (last_sorted es) ∙ ap unless_notdef (find-last q es))

  -- ---- one more entry

  choice-cond : (b : Bool) (v : List ℕ) (rest x : Option (List ℕ)) → choice (cond b (Some v) rest) x ≡ cond b (Some v) (choice rest x)
  choice-cond true v rest x = refl
  choice-cond false v rest x = refl

  -- the value of a last entry is the last one of its key
  pub last_value-append : (q : K) (es : List (K × List ℕ)) (e : K × List ℕ) →
      last_value R q (es ++ e ∷ []) ≡ cond (is_eq (R q e.0)) (Some e.1) (last_value R q es)
  last_value-append q [] e = refl
  last_value-append q (d ∷ ds) e = ap (λ o. choice o (cond (is_eq (R q d.0)) (Some d.1) None)) (last_value-append q ds e)
      ∙ choice-cond (is_eq (R q e.0)) e.1 (last_value R q ds) (cond (is_eq (R q d.0)) (Some d.1) None)

  -- the last entry is put in the map of those before it
  pub map_of-append : (es : List (K × List ℕ)) (e : K × List ℕ) → map_of {R = R} (es ++ e ∷ []) ≡ maps.insert (map_of es) e.0 e.1
  map_of-append es e = maps.same_map o same _ _ (λ q.
      get-map_of (es ++ e ∷ []) q
      ∙ (last_value-append q es e
      ∙ (ap (cond (is_eq (R q e.0)) (Some e.1)) (sym (get-map_of es q)) ∙ sym (maps.get-insert o (map_of es) e.0 e.1 q))))

  -- no entries make an empty map
  pub map_of-nil : map_of {R = R} [] ≡ maps.empty
  map_of-nil = maps.same_map o same _ _ (λ q. get-map_of [] q ∙ sym (maps.get-empty R q))
