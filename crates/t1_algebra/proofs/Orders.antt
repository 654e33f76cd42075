-- Fonts from anywhere join to the same in every order and grouping, since their states do.
use Rattle.std.proofs.Common.{◌≡◌, List, [], ◌∷◌, refl, sym, ◌∙◌, ap, subst, IsPermutation}
use Rattle.t1_join.specs.Groupings.{Grouping, one, two, leaves, map_grouping, EachLeaf, from_left, Gives}
use Rattle.t1_join.proofs.OrderLemmas.{below_trans, below_left, below_right, below_both, gives_one, same_given, moved_images, same_leaves, leaves_from_left, all_leaves, each_leaf}
use Rattle.t1_font.specs.FontValue.{FontValue}
use Rattle.t1_algebra.specs.{States.{KeepsLimits, joined_font, Compatible, Join}, StateTables.{StatesValue, FontStatesJoin, states_of}, StateLaws.{parts_laws, parts_by_pairs, falls, states_laws}}
use Rattle.t1_algebra.specs.Groupings.{JoinTo, Merges, folded, EachPair}
use Rattle.t1_algebra.proofs.{Words.{AllByRecursion, Interpreter}, JoinedStates.{font_back, compatible_back}}
use Rattle.t1_algebra.proofs.FontStates.{agree_compatible, compatible_agree, parts_join, states_join, join_exactly, fits, font_known}

module _ {X : Type 0} (P Q : X → Type 0) (weaker : (x : X) → P x → Q x) where
  -- what follows from what holds of each element of a list holds of each
  pub all_weaker : (xs : List X) → AllByRecursion P xs → AllByRecursion Q xs
  all_weaker [] h = tt
  all_weaker (x ∷ xs) h = (weaker x h.0, all_weaker xs h.1)

  -- what follows from what holds at each leaf holds at each leaf
  pub each_weaker : (t : Grouping X) → EachLeaf P t → EachLeaf Q t
  each_weaker t h = each_leaf Q t (all_weaker (leaves t) (all_leaves P t h))

module _ {O : Type 0} (m : Interpreter O) where
  -- the states of fonts in the grouping of the fonts
  abbrev pub grouped : Grouping FontValue → Grouping StatesValue
  grouped t = map_grouping (states_of m) t

  -- if the states of fonts join, the fonts merge, to a font of the joined states
  pub merges_by_states : (t : Grouping FontValue) → EachLeaf KeepsLimits t → (v : StatesValue) → Gives FontStatesJoin (grouped t) v →
      (j : FontValue) × Merges m t j × (v ≡ states_of m j) × KeepsLimits j
  merges_by_states (one f) w v h = (f, refl, sym h, w)
  merges_by_states (two s t) w v h =
      let p = merges_by_states s w.0 h.0 h.2 in
      let q = merges_by_states t w.1 h.1 h.3 in
      let k : FontStatesJoin (states_of m p.0) (states_of m q.0) v =
      subst (λ (y : StatesValue). FontStatesJoin (states_of m p.0) y v) q.2 (subst (λ (x : StatesValue). FontStatesJoin x h.1 v) p.2 h.4) in
      let j = (join_exactly m p.0 q.0 p.3).0 (v, k) in
      (joined_font m p.0 q.0, (p.0, q.0, p.1, q.1, (j, refl)), states_laws.one_answer _ _ _ _ k (states_join m p.0 q.0 j), j.within)

  -- the states of two fonts join to those of their join
  join_states : (f g j : FontValue) → JoinTo m f g j → FontStatesJoin (states_of m f) (states_of m g) (states_of m j)
  join_states f g j h = subst (λ (j : FontValue). FontStatesJoin (states_of m f) (states_of m g) (states_of m j)) h.1 (states_join m f g h.0)

  -- if fonts merge, their states join to those of the font
  pub states_by_merges : (t : Grouping FontValue) (j : FontValue) → Merges m t j → Gives FontStatesJoin (grouped t) (states_of m j)
  states_by_merges (one f) j h = ap (states_of m) h
  states_by_merges (two s t) j h = (states_of m h.0, states_of m h.1, states_by_merges s h.0 h.2, states_by_merges t h.1 h.3, join_states h.0 h.1 j h.4)

  -- what fonts within the limits merge to is within them
  pub within : (t : Grouping FontValue) (j : FontValue) → Merges m t j → EachLeaf KeepsLimits t → KeepsLimits j
  within (one f) j h w = subst KeepsLimits h w
  within (two s t) j h w = subst KeepsLimits h.4.1 h.4.0.within

  -- fonts merge to one font at most
  pub one_result : (t : Grouping FontValue) (j k : FontValue) → Merges m t j → Merges m t k → j ≡ k
  one_result t j k h i = font_known m j k (gives_one states_laws (grouped t) (states_of m j) (states_of m k) (states_by_merges t j h) (states_by_merges t k i))

  -- fonts that merge in one order and grouping merge in every other, to the same font
  pub any_order : (s t : Grouping FontValue) → IsPermutation (leaves s) (leaves t) → EachLeaf KeepsLimits s → (j : FontValue) → Merges m s j → Merges m t j
  any_order s t p w j h =
      let given = same_given states_laws (grouped s) (grouped t) (states_of m j) (moved_images (states_of m) s t p) (states_by_merges s j h) in
      let r = merges_by_states t (same_leaves KeepsLimits s t p w) (states_of m j) given in
      subst (Merges m t) (sym (font_known m j r.0 r.2)) r.1

  -- ---- two fonts

  -- a font within the limits joins with itself, to itself
  pub join_self : (f : FontValue) → KeepsLimits f → Join m f f × (joined_font m f f ≡ f)
  join_self f w =
      let itself = parts_laws.idempotent (states_of m f) in
      let c = agree_compatible m f f (parts_laws.only_where _ _ _ itself) in
      let same = font_known m (joined_font m f f) f (parts_laws.one_answer _ _ _ _ (parts_join m f f c) itself) in
      (record { states = c; within = subst KeepsLimits (sym same) w }, same)

  -- two fonts that join do so in the other order, to the same font
  pub join_back : (f g : FontValue) → Join m f g → Join m g f × (joined_font m f g ≡ joined_font m g f)
  join_back f g j =
      let e = font_back m f g j.states in
      (record { states = compatible_back m f g j.states; within = subst KeepsLimits e j.within }, e)

  -- ---- fonts whose states are among those of another

  -- the states of f are among those of j
  abbrev pub Below : FontValue → FontValue → Type 0
  Below j f = FontStatesJoin (states_of m f) (states_of m j) (states_of m j)

  -- the states of fonts are among those of the font that they merge to
  pub above : (t : Grouping FontValue) (j : FontValue) → Merges m t j → EachLeaf (Below j) t
  above (one f) j h = subst (λ (j : FontValue). Below j f) h (states_laws.idempotent (states_of m f))
  above (two s t) j h =
      let k = join_states h.0 h.1 j h.4 in (
        each_weaker (Below h.0) (Below j) (λ f b. below_trans states_laws _ _ _ b (below_left states_laws _ _ _ k)) s (above s h.0 h.2),
        each_weaker (Below h.1) (Below j) (λ f b. below_trans states_laws _ _ _ b (below_right states_laws _ _ _ k)) t (above t h.1 h.3),
      )

  -- ---- each pair

  -- what is compatible with two fonts is compatible with their join
  all_with_join : (f g : FontValue) (hs : List FontValue) → Compatible m f g → AllByRecursion (Compatible m f) hs → AllByRecursion (Compatible m g) hs →
      AllByRecursion (Compatible m (joined_font m f g)) hs
  all_with_join f g [] c a b = tt
  all_with_join f g (h ∷ hs) c a b = (
    agree_compatible m (joined_font m f g) h (parts_by_pairs _ _ _ _ (parts_join m f g c) (compatible_agree m f h a.0) (compatible_agree m g h b.0)),
    all_with_join f g hs c a.1 b.1,
  )

  -- a font is within the limits if what it is folded into is
  first_within : (f : FontValue) (gs : List FontValue) → AllByRecursion (Compatible m f) gs → EachPair m gs → KeepsLimits (folded m f gs) → KeepsLimits f
  first_within f [] a p w = w
  first_within f (g ∷ gs) a p w =
      let j = joined_font m f g in
      (fits m f).1 (falls _ _ _ (parts_join m f g a.0) ((fits m j).0 (first_within j gs (all_with_join f g gs a.0 a.1 p.0) p.1 w)))

  -- fonts of which each two are compatible merge from left to right, if the last join is within the limits
  folds : (t : Grouping FontValue) (f : FontValue) (gs : List FontValue) → Merges m t f →
      AllByRecursion (Compatible m f) gs → EachPair m gs → KeepsLimits (folded m f gs) → Merges m (from_left t gs) (folded m f gs)
  folds t f [] h a p w = h
  folds t f (g ∷ gs) h a p w =
      let j = joined_font m f g in
      let next = all_with_join f g gs a.0 a.1 p.0 in
      folds (two t (one g)) j gs (f, g, h, refl, (record { states = a.0; within = first_within j gs next p.1 w }, refl)) next p.1 w

  -- a list of which each two fonts are compatible merges, if what it folds to is within the limits
  pub accepted_from_pairs : (f : FontValue) (fs : List FontValue) → EachPair m (f ∷ fs) → KeepsLimits (folded m f fs) →
      Merges m (from_left (one f) fs) (folded m f fs)
  accepted_from_pairs f fs p w = folds (one f) f fs refl p.0 p.1 w

  -- each two fonts below j are compatible
  pairs_below : (j : FontValue) (fs : List FontValue) → AllByRecursion (Below j) fs → EachPair m fs
  pairs_below j [] a = tt
  pairs_below j (f ∷ fs) a = (
    all_weaker (Below j) (Compatible m f)
        (λ g b. let r = below_both states_laws _ _ _ a.0 b in agree_compatible m f g (parts_laws.only_where _ _ _ r.1.0)) fs a.1,
    pairs_below j fs a.1,
  )

  -- each two fonts of a list that merges are compatible
  pub pairs_from_accepted : (f : FontValue) (fs : List FontValue) (j : FontValue) → Merges m (from_left (one f) fs) j → EachPair m (f ∷ fs)
  pairs_from_accepted f fs j h = pairs_below j (f ∷ fs)
      (subst (AllByRecursion (Below j)) (leaves_from_left (one f) fs) (all_leaves (Below j) (from_left (one f) fs) (above (from_left (one f) fs) j h)))

  -- what merges from left to right came to is what the fonts fold to
  folded_from : (t : Grouping FontValue) (f : FontValue) (gs : List FontValue) (j : FontValue) →
      ((k : FontValue) → Merges m t k → k ≡ f) → Merges m (from_left t gs) j → folded m f gs ≡ j
  folded_from t f [] j only h = sym (only j h)
  folded_from t f (g ∷ gs) j only h =
      folded_from (two t (one g)) (joined_font m f g) gs j (λ k i. sym i.4.1 ∙ (λ e. joined_font m (only i.0 i.2 e) (sym i.3 e))) h

  -- what a list merges to is what it folds to
  pub folded_is : (f : FontValue) (fs : List FontValue) (j : FontValue) → Merges m (from_left (one f) fs) j → folded m f fs ≡ j
  folded_is f fs j h = folded_from (one f) f fs j (λ k i. sym i) h
