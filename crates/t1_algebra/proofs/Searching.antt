-- Searches: what they find, and when they find nothing.
use Rattle.std.proofs.{Common.{◌≡◌, ℕ, Bool, true, false, cond, List, [], ◌∷◌, map, refl, sym, ◌∙◌, ap, true≢false, Ordering, Less, Option, Some, None}, lemmas.Bool.{or_right}}
use Rattle.std.specs.{FinMap.Entries.{below_all, is_sorted}, List.{find}}
use Rattle.t1_join.proofs.Sorted.{lt_is}
use Rattle.t1_font.proofs.MapLemmas.{T_true}
use Rattle.t1_algebra.{specs.Searches.{members, smallest, found}, proofs.{Words.{list_any, AllByRecursion, eq_by_cmp, IsTotalOrder, first_so, second_so, IsAntisymmetric}, Sets.{tied, itself, cases}}}
use Rattle.std.specs.FinMap as maps

module _ {X : Type 0} (p : X → Bool) where
  -- if a search finds nothing, no element passes
  pub none_passes : (xs : List X) → find p xs ≡ None → AllByRecursion (λ x. p x ≡ false) xs
  none_passes [] h = tt
  none_passes (x ∷ xs) h = grind (cases, none_passes xs)

  -- what a search finds passes
  pub first_passes : (xs : List X) (x : X) → find p xs ≡ Some x → p x ≡ true
  first_passes [] x h = cc
  first_passes (y ∷ xs) x h = grind (cases, first_passes xs x)

  -- if no element passes, a search finds nothing
  pub passes_none : (xs : List X) → ((x : X) → p x ≡ false) → find p xs ≡ None
  passes_none [] h = refl
  passes_none (x ∷ xs) h = ap (λ b. cond b (Some x) (find p xs)) (h x) ∙ passes_none xs h

-- if nothing is found of two things, neither is there
pub found_none : {X Y : Type 0} (f : X → Y) (x : Option X) (e : Option Y) → found f x e ≡ None → (x ≡ None) × (e ≡ None)
found_none f x e h = grind cases

module _ {K : Type 0} {R : K → K → Ordering} (o : IsTotalOrder R) (same : IsAntisymmetric R) (p : K → Bool) where
  -- if a search among keys finds nothing, no key passes
  pub none_at_all : (ks : List K) (q : K) → find p ks ≡ None → list_any (eq_by_cmp R q) ks ≡ true → p q ≡ false
  none_at_all [] q h k = absurd (true≢false (sym k))
  none_at_all (j ∷ ks) q h k = grind (cases, tied o same q j, none_at_all ks q)

  -- if there is no smallest key that passes, no key of the set passes
  pub smallest_none : (s : maps.FinMap R ℕ) (q : K) → smallest p s ≡ None → maps.contains_key s q ≡ true → p q ≡ false
  smallest_none s q h k = none_at_all (members s) q h (sym (maps.contains_key-keys s q) ∙ k)

  -- a key is below the keys that come later
  pub below_later : {X : Type 0} (k q : K) (es : List (K × X)) → below_all R k es ≡ true → list_any (eq_by_cmp R q) (map (λ e. e.0) es) ≡ true → R k q ≡ Less
  below_later k q [] b h = absurd (true≢false (sym h))
  below_later k q (e ∷ es) b h = grind (cases, b, h, tied o same q e.0, lt_is (R k e.0), below_later k q es)

  -- the first key that passes is one that passes, below which none does
  first_is : {X : Type 0} (k : K) (es : List (K × X)) → is_sorted R es ≡ true → list_any (eq_by_cmp R k) (map (λ e. e.0) es) ≡ true → p k ≡ true
      → ((q : K) → list_any (eq_by_cmp R q) (map (λ e. e.0) es) ≡ true → R q k ≡ Less → p q ≡ false) → find p (map (λ e. e.0) es) ≡ Some k
  first_is k [] s h is least = absurd (true≢false (sym h))
  first_is k (e ∷ es) s h is least =
      let rest = λ (c : list_any (eq_by_cmp R k) (map (λ e. e.0) es) ≡ true).
      first_is k es (second_so (below_all R e.0 es) _ s) c is (λ q w. least q (or_right _ _ w)) in
      grind (cases, tied o same k e.0, itself o same e.0, least e.0, below_later e.0 k es, rest, first_so (below_all R e.0 es) (is_sorted R es) s)

  -- a member that passes, below which none does, is the smallest
  pub smallest_is : (s : maps.FinMap R ℕ) (k : K) → maps.contains_key s k ≡ true → p k ≡ true →
      ((q : K) → maps.contains_key s q ≡ true → R q k ≡ Less → p q ≡ false) → smallest p s ≡ Some k
  smallest_is s k h is least =
      first_is k (maps.entries s) (T_true (is_sorted R (maps.entries s)) (maps.entries_sorted s)) (sym (maps.contains_key-keys s k) ∙ h) is
      (λ q w l. least q (maps.contains_key-keys s q ∙ w) l)
