-- The last entries of a list, each key once, and the map of the list.
use native.Mathlib.Numerals.{unary_clauses}
use Rattle.std.proofs.Common.{◌≡◌, ℕ, ◌+◌, ◌<◌, ◌≤◌, ◌++◌, length, take, drop, set, add-one, refl, sym, ap, subst, ◌∙◌, arith, ◌⊎◌, inl, inr, Bool, true, false, cond, not, ◌&&◌, List, [], ◌∷◌}
use Rattle.std.proofs.{Common.{Option, Some, None, get_or, zero, suc}, lemmas.List.{append_assoc, append-nil, nil_from_length, length-set, length-drop, drop-drop, drop-set-lt, take_more_set}}
use Rattle.std.proofs.{lemmas.List.Elements.{All-nil, All-cons, All-head, All-tail}, lemmas.Cmp.{on_total}, lemmas.List.Sorted.{All-permutation}}
use Rattle.std.specs.{Prelude.{filter}, Option.{option_map}, List.{All, AllByRecursion}, List.Sorted.{IsSortedByKey, IsStableByKey, IsStrictlySortedBy, ties}, declared.cmp.Ordering.{Ordering}}
use Rattle.std.specs.{declared.cmp.Ordering.TheVariants.{Less, Equal, Greater}, Ordering.{is_lt, is_eq, on, ordering_reverse}, Cmp.{IsTotalOrder, alike_right, Equal-is}, FinSet.{IsAntisymmetric}}
use Rattle.std.specs.Map.{keys_of}
use Rattle.t1_grammar.specs.Grammar.{choice}
use Rattle.t1_join.{specs.{Entries.{entries_by}, TableMeaning.{Rises}}, proofs.TreeEntries.{sorted_entries}}
use Rattle.t1_font.proofs.canonical.FontAgain.{map_again}
use Rattle.t1_text.specs.Entries.{comes_again, run_end, run_ends, KeysRise, AreLast, AreSettled, last_value, map_of}
use Rattle.t1_text.proofs.MapLaws.{get-map_of, choice-none}
use Rattle.std.specs.FinMap as fin

-- ---- the last of a list

abbrev last_of : {Y : Type 0} → List Y → Option Y
last_of [] = None
last_of (y ∷ ys) = choice (last_of ys) (Some y)

map_choice : {Y X : Type 0} (h : Y → X) (o p : Option Y) → option_map h (choice o p) ≡ choice (option_map h o) (option_map h p)
map_choice h None p = refl
map_choice h (Some y) p = refl

pub tie_is : (r s : Ordering) → s ≡ ordering_reverse r → is_eq r ≡ (not (is_lt r) && not (is_lt s))
tie_is Less s e = refl
tie_is Equal s e = rw e refl
tie_is Greater s e = rw e refl

-- neither below nor tied, so above
must_be_less : (r s : Ordering) → s ≡ ordering_reverse r → is_lt s ≡ false → is_eq s ≡ false → r ≡ Less
must_be_less Less s e below tied = refl
must_be_less Equal s e below tied = cc
must_be_less Greater s e below tied = cc

module _ {K V : Type 0} {R : K → K → Ordering} (o : IsTotalOrder R) where
  abbrev key : K × V → K
  key e = e.0

  abbrev first_up : K → List (K × V) → Type 0
  first_up k [] = Unit {0}
  first_up k (e ∷ es) = is_lt (R e.0 k) ≡ false

  head_up : (e : K × V) (es : List (K × V)) → IsSortedByKey key R (e ∷ es) → first_up e.0 es
  head_up e [] up = tt
  head_up e (f ∷ fs) up = up zero e (omega arith) (omega arith)

  tail_up : (e : K × V) (es : List (K × V)) → IsSortedByKey key R (e ∷ es) → IsSortedByKey key R es
  tail_up e es up = λ k d low high. subst (λ n. is_lt (R (key (get_or es n d)) (key (get_or es k d))) ≡ false)
      (omega arith) (simp unary_clauses at (up (suc k) d (omega arith) (omega (arith, high))))

  -- a key below the first entry's is below all
  below_first : (k : K) (e : K × V) (es : List (K × V)) → R k e.0 ≡ Less → IsSortedByKey key R (e ∷ es) → All (λ x. R k x.0 ≡ Less) (e ∷ es)
  below_first k e [] less up = All-cons (λ (x : K × V). R k x.0 ≡ Less) e [] less (All-nil (λ (x : K × V). R k x.0 ≡ Less))
  below_first k e (f ∷ fs) less up =
      All-cons (λ (x : K × V). R k x.0 ≡ Less) e (f ∷ fs) less (below_first k f fs (lower (R f.0 e.0) refl (head_up e (f ∷ fs) up)) (tail_up e (f ∷ fs) up))
    where
      lower : (r : Ordering) → R f.0 e.0 ≡ r → is_lt r ≡ false → R k f.0 ≡ Less
      lower Less h same = cc
      lower Equal h same = alike_right o f.0 e.0 k h ∙ less
      lower Greater h same = o.trans k e.0 f.0 less (o.antisymm e.0 f.0 ∙ ap ordering_reverse h)

  -- the ends of runs are among the entries
  all_ends : (P : K × V → Type 0) (es : List (K × V)) → All P es → All P (run_ends R es)
  all_ends P [] h = h
  all_ends P (e ∷ es) h =
      let rest = all_ends P es (All-tail P e es h) in
      elim (comes_again R e.0 es) as (λ b. All P (cond b (run_ends R es) (e ∷ run_ends R es))) [
        | true ↦ rest
        | false ↦ All-cons P e (run_ends R es) (All-head P e es h) rest
      ]

  -- what holds of all entries holds of the last ones
  pub all_last : (P : K × V → Type 0) (es last : List (K × V)) → AreLast R es last → All P es → All P last
  all_last P es last are h = subst (All P) (sym are.last_is) (all_ends P are.sorted (All-permutation P es are.sorted are.same h))

  -- nor are there others among entries that are settled
  pub settled_all : (P : K × V → Type 0) (old new : List (K × V)) → AreSettled R old new → All P old → All P new
  settled_all P old new (inl is) h = subst (All P) (sym is) h
  settled_all P old new (inr are) h = all_last P old new are h

  above_ends : (e : K × V) (es : List (K × V)) → comes_again R e.0 es ≡ false → IsSortedByKey key R (e ∷ es) → All (λ x. R e.0 x.0 ≡ Less) es
  above_ends e [] alone up = All-nil (λ (x : K × V). R e.0 x.0 ≡ Less)
  above_ends e (f ∷ fs) alone up =
      below_first e.0 f fs (must_be_less (R e.0 f.0) (R f.0 e.0) (o.antisymm f.0 e.0) (head_up e (f ∷ fs) up) alone) (tail_up e (f ∷ fs) up)

  keys_all : (k : K) (es : List (K × V)) → All (λ x. R k x.0 ≡ Less) es → AllByRecursion (λ y. R k y ≡ Less) (keys_of es)
  keys_all k [] h = tt
  keys_all k (e ∷ es) h = (All-head (λ (x : K × V). R k x.0 ≡ Less) e es h, keys_all k es (All-tail (λ (x : K × V). R k x.0 ≡ Less) e es h))

  -- the keys of those that end a run rise
  ends_rise : (es : List (K × V)) → IsSortedByKey key R es → IsStrictlySortedBy R (keys_of (run_ends R es))
  unfolding IsStrictlySortedBy
  ends_rise [] up = tt
  ends_rise (e ∷ es) up =
      let rest = ends_rise es (tail_up e es up) in
      elim (comes_again R e.0 es) as (λ b. comes_again R e.0 es ≡ b → IsStrictlySortedBy R (keys_of (cond b (run_ends R es) (e ∷ run_ends R es)))) [
        | true ↦ λ h. rest
        | false ↦ λ h. (keys_all e.0 (run_ends R es) (all_ends (λ x. R e.0 x.0 ≡ Less) es (above_ends e es h up)), rest)
      ] refl

  -- the keys of the last entries rise
  pub last_rise : (es last : List (K × V)) → AreLast R es last → IsStrictlySortedBy R (keys_of last)
  last_rise es last are = subst (λ l. IsStrictlySortedBy R (keys_of l)) (sym are.last_is) (ends_rise are.sorted are.rise)

  -- keys of which each is below the next don't fall
  pub rising_sorted : (es : List (K × V)) → KeysRise R es → IsSortedByKey key R es
  rising_sorted es up = λ k d low high. above (R (get_or es k d).0 (get_or es (k + 1) d).0) (R (get_or es (k + 1) d).0 (get_or es k d).0)
      (o.antisymm _ _) (up k d high)
    where
      above : (r s : Ordering) → s ≡ ordering_reverse r → r ≡ Less → is_lt s ≡ false
      above r s e less = grind (arith, e, less)

  tail_rises : (e : K × V) (es : List (K × V)) → KeysRise R (e ∷ es) → KeysRise R es
  tail_rises e es up = λ k d high. subst (λ n. R (get_or es k d).0 (get_or es n d).0 ≡ Less)
      (omega arith) (simp unary_clauses at (up (suc k) d (omega (arith, high))))

  -- and none of them comes again
  pub rising_ends : (es : List (K × V)) → KeysRise R es → run_ends R es ≡ es
  rising_ends [] up = refl
  rising_ends (e ∷ []) up = refl
  rising_ends (e ∷ f ∷ es) up =
      let alone : comes_again R e.0 (f ∷ es) ≡ false = apart (R e.0 f.0) (R f.0 e.0) (o.antisymm _ _) (up 0 e (omega arith)) in
      ap (λ b. cond b (run_ends R (f ∷ es)) (e ∷ run_ends R (f ∷ es))) alone
      ∙ ap (λ (x : List (K × V)). e ∷ x) (rising_ends (f ∷ es) (tail_rises e (f ∷ es) up))
    where
      apart : (r s : Ordering) → s ≡ ordering_reverse r → r ≡ Less → is_eq s ≡ false
      apart r s e less = grind (arith, e, less)

-- ---- by what keys and values stand for

module _ {K V M X : Type 0} (f : K → M) (g : V → X) (S : M → M → Ordering) (o : IsTotalOrder S) where
  abbrev lt : K × V → K × V → Bool
  lt x y = is_lt (on f S x.0 y.0)

  -- the value of a key is that of the last entry that ties with one of its entries
  value_by : (m : M) (e : K × V) → S m (f e.0) ≡ Equal → (es : List (K × V)) →
      last_value S m (entries_by f g es) ≡ option_map (λ (x : K × V). g x.1) (last_of (filter (ties lt e) es))
  value_by m e t [] = refl
  value_by m e t (d ∷ ds) =
      let tied : is_eq (S m (f d.0)) ≡ ties lt e d =
      ap is_eq (o.congr m (f e.0) (f d.0) t) ∙ tie_is (on f S e.0 d.0) (on f S d.0 e.0) (o.antisymm (f d.0) (f e.0)) in
      (λ i. choice (value_by m e t ds i) (cond (tied i) (Some (g d.1)) None))
      ∙ (elim (ties lt e d)
      as (λ b. choice (option_map (λ (x : K × V). g x.1) (last_of (filter (ties lt e) ds))) (cond b (Some (g d.1)) None)
      ≡ option_map (λ (x : K × V). g x.1) (last_of (cond b (d ∷ filter (ties lt e) ds) (filter (ties lt e) ds)))) [
        | true ↦ sym (map_choice (λ (x : K × V). g x.1) (last_of (filter (ties lt e) ds)) (Some d))
        | false ↦ choice-none _
      ])

  -- a key has an entry, or no value
  found_or_none : (m : M) (es : List (K × V)) → ((e : K × V) × (S m (f e.0) ≡ Equal)) ⊎ (last_value S m (entries_by f g es) ≡ None)
  found_or_none m [] = inr refl
  found_or_none m (e ∷ es) = elim (found_or_none m es) [
    | inl found ↦ inl found
    | inr none ↦ elim (S m (f e.0)) as (λ r. S m (f e.0) ≡ r →
        ((d : K × V) × (S m (f d.0) ≡ Equal)) ⊎ (choice (last_value S m (entries_by f g es)) (cond (is_eq r) (Some (g e.1)) None) ≡ None)) [
          | Less ↦ λ h. inr (choice-none _ ∙ none)
          | Equal ↦ λ h. inl (e, h)
          | Greater ↦ λ h. inr (choice-none _ ∙ none)
        ] refl
  ]

  -- where entries that tie stand in their order, each key has its value
  same_last : (es sorted : List (K × V)) → IsStableByKey (λ (e : K × V). e.0) (on f S) es sorted → (m : M) →
      last_value S m (entries_by f g sorted) ≡ last_value S m (entries_by f g es)
  same_last es sorted stable m = elim (found_or_none m es) [
    | inl e ↦ by_entry e.0 e.1
    | inr none ↦ elim (found_or_none m sorted) [
      | inl e ↦ by_entry e.0 e.1
      | inr nowhere ↦ nowhere ∙ sym none
    ]
  ]
    where
      by_entry : (e : K × V) → S m (f e.0) ≡ Equal → last_value S m (entries_by f g sorted) ≡ last_value S m (entries_by f g es)
      by_entry e t = value_by m e t sorted ∙ (ap (λ es. option_map (λ (x : K × V). g x.1) (last_of es)) (stable e) ∙ sym (value_by m e t es))

  -- a key below all has no value
  none_above : (m : M) (e : K × V) → S m (f e.0) ≡ Equal → (es : List (K × V)) → All (λ x. on f S e.0 x.0 ≡ Less) es → last_value S m (entries_by f g es) ≡ None
  none_above m e t [] h = refl
  none_above m e t (d ∷ ds) h =
      let less : S m (f d.0) ≡ Less = o.congr m (f e.0) (f d.0) t ∙ All-head (λ (x : K × V). on f S e.0 x.0 ≡ Less) d ds h in
      (λ i. choice (none_above m e t ds (All-tail (λ (x : K × V). on f S e.0 x.0 ≡ Less) d ds h) i) (cond (is_eq (less i)) (Some (g d.1)) None))

  -- where the next entry has the key, this one's value is not the last
  passed_over : (m : M) (e : K × V) (es : List (K × V)) → comes_again (on f S) e.0 es ≡ true →
      choice (last_value S m (entries_by f g es)) (cond (is_eq (S m (f e.0))) (Some (g e.1)) None) ≡ last_value S m (entries_by f g es)
  passed_over m e [] again = cc
  passed_over m e (d ∷ ds) again =
      let alike : S m (f d.0) ≡ S m (f e.0) = alike_right o (f d.0) (f e.0) m ((Equal-is (on f S d.0 e.0)).0 again) in
      ap (λ r. choice (choice (last_value S m (entries_by f g ds)) (cond (is_eq (S m (f d.0))) (Some (g d.1)) None)) (cond (is_eq r) (Some (g e.1)) None))
      (sym alike)
      ∙ by_test (last_value S m (entries_by f g ds)) (is_eq (S m (f d.0)))
    where
      by_test : (v : Option X) (b : Bool) → choice (choice v (cond b (Some (g d.1)) None)) (cond b (Some (g e.1)) None) ≡ choice v (cond b (Some (g d.1)) None)
      by_test (Some x) b = refl
      by_test None true = refl
      by_test None false = refl

  -- the last entries of runs have the last value of each key
  find_ends : (es : List (K × V)) → IsSortedByKey (λ (e : K × V). e.0) (on f S) es → (m : M) →
      fin.find S m (entries_by f g (run_ends (on f S) es)) ≡ last_value S m (entries_by f g es)
  find_ends [] up m = refl
  find_ends (e ∷ es) up m =
      let rest = find_ends es (tail_up (on_total f o) e es up) m in
      elim (comes_again (on f S) e.0 es)
      as (λ b. comes_again (on f S) e.0 es ≡ b → fin.find S m (entries_by f g (cond b (run_ends (on f S) es) (e ∷ run_ends (on f S) es)))
      ≡ choice (last_value S m (entries_by f g es)) (cond (is_eq (S m (f e.0))) (Some (g e.1)) None)) [
        | true ↦ λ h. rest ∙ sym (passed_over m e es h)
        | false ↦ λ h. elim (S m (f e.0))
            as (λ r. S m (f e.0) ≡ r → cond (is_eq r) (Some (g e.1)) (fin.find S m (entries_by f g (run_ends (on f S) es)))
            ≡ choice (last_value S m (entries_by f g es)) (cond (is_eq r) (Some (g e.1)) None)) [
              | Less ↦ λ t. rest ∙ sym (choice-none _)
              | Equal ↦ λ t. ap (λ v. choice v (Some (g e.1))) (sym (none_above m e t es (above_ends (on_total f o) e es h up)))
              | Greater ↦ λ t. rest ∙ sym (choice-none _)
            ] refl
      ] refl

module _ {K V M : Type 0} (f : K → M) (g : V → List ℕ) (S : M → M → Ordering) (o : IsTotalOrder S) (same : IsAntisymmetric S)
    (es last : List (K × V)) (are : AreLast (on f S) es last) where
  -- what the keys of the last entries stand for rises
  pub lasts_rise : Rises S (entries_by f g last)
  lasts_rise = sorted_entries f g (on f S) S o same (λ x y. refl) last (last_rise (on_total f o) es last are)

  -- the map of the last entries is that of all
  pub lasts_map : fin.from_sorted {R = S} (entries_by f g last) ≡ map_of (entries_by f g es)
  lasts_map = fin.same_map o same _ _ (λ q.
      fin.get-from_sorted S (entries_by f g last) q lasts_rise
      ∙ (ap (λ l. fin.find S q (entries_by f g l)) are.last_is
      ∙ (find_ends f g S o are.sorted are.rise q
      ∙ (same_last f g S o es are.sorted are.stable q ∙ sym (get-map_of o same (entries_by f g es) q)))))

  -- and they are its entries
  pub lasts_are : entries_by f g last ≡ fin.entries {R = S} (map_of (entries_by f g es))
  lasts_are = sym (fin.entries-from_sorted S (entries_by f g last) lasts_rise) ∙ ap fin.entries lasts_map

  -- which is the map of the last entries alone, in any order
  pub lasts_again : map_of {R = S} (entries_by f g last) ≡ map_of (entries_by f g es)
  lasts_again = ap (map_of {R = S}) lasts_are ∙ map_again o same (map_of (entries_by f g es))

-- entries that are settled have the map that they had
pub settled_map : {K V M : Type 0} (f : K → M) (g : V → List ℕ) (S : M → M → Ordering) → IsTotalOrder S → IsAntisymmetric S →
    (old new : List (K × V)) → AreSettled (on f S) old new → map_of {R = S} (entries_by f g new) ≡ map_of (entries_by f g old)
settled_map f g S o same old new (inl is) = ap (λ es. map_of {R = S} (entries_by f g es)) is
settled_map f g S o same old new (inr are) = lasts_again f g S o same old new are

-- ---- the last entries of runs, moved to the front

-- of the first `at` entries those that end a run stand in front, and the others are as they were
pub record EndsMoved {K V : Type 0} (R : K → K → Ordering) (was now : List (K × V)) (at kept : ℕ) : Type 0 where
  pub behind : kept ≤ at
  pub long : length now ≡ length was
  pub left : drop at now ≡ drop at was
  pub ends : take kept now ++ run_ends R (drop at was) ≡ run_ends R was

end_or_none : {K V : Type 0} (R : K → K → Ordering) (e : K × V) (es : List (K × V)) (o : Option (K × V)) → o ≡ run_end R (e ∷ es) →
    run_ends R (e ∷ es) ≡ elim o [ None ↦ run_ends R es | Some x ↦ x ∷ run_ends R es ]
end_or_none R e es o is =
    subst (λ (p : Option _). run_ends R (e ∷ es) ≡ elim p [ None ↦ run_ends R es | Some x ↦ x ∷ run_ends R es ]) (sym is) (by_test (comes_again R e.0 es))
  where
    by_test : (b : Bool) → cond b (run_ends R es) (e ∷ run_ends R es) ≡ elim (cond b None (Some e)) [ None ↦ run_ends R es | Some x ↦ x ∷ run_ends R es ]
    by_test true = refl
    by_test false = refl

-- of the entries from a place on: the one there, where it ends a run, and those that do behind it
next_end : {K V : Type 0} (R : K → K → Ordering) (es : List (K × V)) (at : ℕ) (o : Option (K × V)) → at < length es → o ≡ run_end R (drop at es) →
    run_ends R (drop at es) ≡ elim o [ None ↦ run_ends R (drop (suc at) es) | Some x ↦ x ∷ run_ends R (drop (suc at) es) ]
next_end R [] at o h is = absurd (omega arith)
next_end R (e ∷ es) zero o h is = end_or_none R e es o is
next_end R (e ∷ es) (suc at) o h is = next_end R es at o (omega arith) is

module _ {K V : Type 0} (R : K → K → Ordering) (was now : List (K × V)) (at kept : ℕ) (h : EndsMoved R was now at kept) (there : at < length was) where
  left_behind : drop (at + 1) now ≡ drop (at + 1) was
  left_behind = sym (drop-drop 1 at now) ∙ (ap (drop 1) h.left ∙ drop-drop 1 at was)

  -- an entry whose key comes again is passed over
  pub end_passed : None ≡ run_end R (drop at now) → EndsMoved R was now (at + 1) kept
  end_passed e = record {
    behind = omega (arith, h.behind);
    long = h.long;
    left = left_behind;
    ends = rw (add-one at) (ap (λ t. take kept now ++ t) (sym (next_end R was at None there (e ∙ ap (run_end R) h.left))) ∙ h.ends);
  }

  -- the last entry of a key is moved to those in front
  pub end_moved : (x : K × V) → Some x ≡ run_end R (drop at now) → EndsMoved R was (set now kept x) (at + 1) (kept + 1)
  end_moved x e = record {
    behind = omega (arith, h.behind);
    long = length-set now kept x ∙ h.long;
    left = drop-set-lt (at + 1) now kept x (omega (arith, h.behind)) ∙ left_behind;
    ends = rw (add-one at)
        (ap (λ t. t ++ run_ends R (drop (suc at) was)) (take_more_set now kept x (omega (arith, h.behind, h.long)))
        ∙ (append_assoc (take kept now) (x ∷ []) (run_ends R (drop (suc at) was))
        ∙ (ap (λ t. take kept now ++ t) (sym (next_end R was at (Some x) there (e ∙ ap (run_end R) h.left))) ∙ h.ends)));
  }

-- behind the last entry, those that end a run are all in front
pub ends_moved : {K V : Type 0} (R : K → K → Ordering) (was now : List (K × V)) (at kept : ℕ) → EndsMoved R was now at kept → length was ≤ at →
    take kept now ≡ run_ends R was
ends_moved R was now at kept h past =
    let none : drop at was ≡ [] = nil_from_length (drop at was) (length-drop at was ∙ omega arith) in
    sym (append-nil (take kept now)) ∙ (ap (λ es. take kept now ++ run_ends R es) (sym none) ∙ h.ends)
