-- Pairs of groups that join.
use Rattle.std.proofs.Common.{◌≡◌, ◌<◌, ◌≤◌, ◌+◌, ◌-◌, ℕ, zero, suc, Bool, true, false, List, [], ◌∷◌, ◌++◌, length, get_or, set, take, drop, map, Option, Some, None, sym, ap, ◌∙◌, arith}
use Rattle.std.proofs.lemmas.{Bool.{cond-true, cond-false}, List.{drop_more, drop_all, map-append, map-set, take-map, drop-map}}
use Rattle.std.specs.{Borrow.{Bor}, Global.{Vec}, List.{remove}, Option.{option_map_or}}
use Rattle.t1_classes.specs.{Partition.{File, partner_from, pair_or, pair_from, joined_at, settled}, Views.{lent, group_lists}}

module _ (joins : List File → Bool) (groups : List (Vec (Bor (List ℕ)))) (i : ℕ) where
  -- from the end on no group joins
  pub no_partner : (g : List File) → length groups ≤ i → None ≡ partner_from joins g i (group_lists (drop i groups))
  unfolding partner_from
  no_partner g le = ap (λ (gs : List (Vec (Bor (List ℕ)))). partner_from joins g i (group_lists gs)) (sym (drop_all i groups le))

  -- nor is there a pair
  pub no_pair : length groups ≤ i → None ≡ pair_from joins i (group_lists (drop i groups))
  unfolding pair_from
  no_pair le = ap (λ (gs : List (Vec (Bor (List ℕ)))). pair_from joins i (group_lists gs)) (sym (drop_all i groups le))

  module _ (h : Vec (Bor (List ℕ))) (lt : i < length groups) (is : h ≡ get_or groups i h) where
    -- a group and those behind it
    there : group_lists (drop i groups) ≡ lent h.items ∷ group_lists (drop (i + 1) groups)
    there = ap group_lists (drop_more groups i h lt) ∙ ap (λ (k : Vec (Bor (List ℕ))). lent k.items ∷ group_lists (drop (i + 1) groups)) (sym is)

    module _ (g : List File) where
      at : partner_from joins g i (group_lists (drop i groups)) ≡ partner_from joins g i (lent h.items ∷ group_lists (drop (i + 1) groups))
      at = ap (partner_from joins g i) there

      -- it joins with g
      pub partner_here : joins (g ++ lent h.items) ≡ true → Some i ≡ partner_from joins g i (group_lists (drop i groups))
      unfolding partner_from
      partner_here e = sym (at
          ∙ cond-true (joins (g ++ lent h.items)) (Some i) (partner_from joins g (i + 1) (group_lists (drop (i + 1) groups))) e)

      -- it doesn't
      pub partner_later : joins (g ++ lent h.items) ≡ false →
          partner_from joins g (i + 1) (group_lists (drop (i + 1) groups)) ≡ partner_from joins g i (group_lists (drop i groups))
      unfolding partner_from
      partner_later e = sym (at
          ∙ cond-false (joins (g ++ lent h.items)) (Some i) (partner_from joins g (i + 1) (group_lists (drop (i + 1) groups))) e)

    -- a partner makes a pair
    paired : (o : Option ℕ) → o ≡ partner_from joins (lent h.items) (i + 1) (group_lists (drop (i + 1) groups)) →
        pair_from joins i (group_lists (drop i groups)) ≡ pair_or i o (pair_from joins (i + 1) (group_lists (drop (i + 1) groups)))
    unfolding pair_from
    paired o e = ap (pair_from joins i) there
        ∙ ap (λ (o : Option ℕ). pair_or i o (pair_from joins (i + 1) (group_lists (drop (i + 1) groups)))) (sym e)

    pub pair_here : (o : Option ℕ) (j : ℕ) → o ≡ partner_from joins (lent h.items) (i + 1) (group_lists (drop (i + 1) groups)) → o ≡ Some j →
        Some (i, j) ≡ pair_from joins i (group_lists (drop i groups))
    pair_here o j e s = sym (paired o e ∙ ap (λ (o : Option ℕ). pair_or i o (pair_from joins (i + 1) (group_lists (drop (i + 1) groups)))) s)

    pub pair_later : (o : Option ℕ) → o ≡ partner_from joins (lent h.items) (i + 1) (group_lists (drop (i + 1) groups)) → o ≡ None →
        pair_from joins (i + 1) (group_lists (drop (i + 1) groups)) ≡ pair_from joins i (group_lists (drop i groups))
    pair_later o e s = sym (paired o e ∙ ap (λ (o : Option ℕ). pair_or i o (pair_from joins (i + 1) (group_lists (drop (i + 1) groups)))) s)

-- ---- the second group in the first

map_remove : {X Y : Type 0} (f : X → Y) (xs : List X) (j : ℕ) → map f (remove xs j) ≡ remove (map f xs) j
map_remove f xs j =
    map-append f (take j xs) (drop (suc j) xs) ∙ (λ i. sym (take-map f j xs) i ++ sym (drop-map f (suc j) xs) i)

-- the files of a group at a place
pub files_at : (groups : List (Vec (Bor (List ℕ)))) (i : ℕ) (g : Vec (Bor (List ℕ))) → i < length groups → g ≡ get_or groups i g →
    lent g.items ≡ get_or (group_lists groups) i []
files_at [] i g lt is = absurd (omega (arith, lt))
files_at (h ∷ groups) zero g lt is = ap (λ (k : Vec (Bor (List ℕ))). lent k.items) is
files_at (h ∷ groups) (suc i) g lt is = files_at groups i g (omega (arith, lt)) is

module _ (groups : List (Vec (Bor (List ℕ)))) (i j : ℕ) (all g h : Vec (Bor (List ℕ))) where
  pub joined_lists : i < j → j < length groups → g ≡ get_or groups i g → h ≡ get_or groups j h → lent all.items ≡ lent g.items ++ lent h.items →
      group_lists (set (remove groups j) i all) ≡ joined_at (group_lists groups) (i, j)
  joined_lists less within first second both =
      map-set (λ (v : Vec (Bor (List ℕ))). lent v.items) (remove groups j) i all
      ∙ (λ k. set (map_remove (λ (v : Vec (Bor (List ℕ))). lent v.items) groups j k) i
      ((both ∙ (λ l. files_at groups i g (omega (arith, less, within)) first l ++ files_at groups j h within second l)) k))

-- ---- turns

module _ (joins : List File → Bool) (m : ℕ) (gs : List (List File)) (o : Option (ℕ × ℕ)) (is : o ≡ pair_from joins 0 gs) where
  next : settled joins (suc m) gs ≡ option_map_or (λ x. settled joins m (joined_at gs x)) o gs
  unfolding settled
  next = ap (λ (o : Option (ℕ × ℕ)). option_map_or (λ x. settled joins m (joined_at gs x)) o gs) (sym is)

  -- a pair that joins
  pub settles : (x : ℕ × ℕ) → o ≡ Some x → settled joins (suc m) gs ≡ settled joins m (joined_at gs x)
  settles x e = next ∙ ap (λ (o : Option (ℕ × ℕ)). option_map_or (λ x. settled joins m (joined_at gs x)) o gs) e

  -- none
  pub is_settled : o ≡ None → settled joins (suc m) gs ≡ gs
  is_settled e = next ∙ ap (λ (o : Option (ℕ × ℕ)). option_map_or (λ x. settled joins m (joined_at gs x)) o gs) e

module _ (joins : List File → Bool) (k i : ℕ) (gs whole : List (List File)) (so_far : settled joins (k - i) gs ≡ whole) where
  module _ (o : Option (ℕ × ℕ)) (is : o ≡ pair_from joins 0 gs) (less : i < k) where
    step : k - i ≡ suc (k - (i + 1))
    step = omega (arith, less)

    here : settled joins (suc (k - (i + 1))) gs ≡ whole
    here = ap (λ (n : ℕ). settled joins n gs) (sym step) ∙ so_far

    pub turn_joins : (x : ℕ × ℕ) → o ≡ Some x → settled joins (k - (i + 1)) (joined_at gs x) ≡ whole
    turn_joins x e = sym (settles joins (k - (i + 1)) gs o is x e) ∙ here

    pub turn_settles : o ≡ None → gs ≡ whole
    turn_settles e = sym (is_settled joins (k - (i + 1)) gs o is e) ∙ here

  pub turns_end : k ≤ i → gs ≡ whole
  unfolding settled
  turns_end le = ap (λ (n : ℕ). settled joins n gs) (sym none) ∙ so_far
    where
      none : k - i ≡ 0
      none = omega (arith, le)
