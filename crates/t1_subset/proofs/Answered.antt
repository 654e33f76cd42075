-- What the calls that merge answer.
use Rattle.std.proofs.Common.{◌≡◌, inl, inr, List, [], ◌∷◌, map, refl, sym, ◌∙◌, ap, subst, Option, None, Result, Ok, Err, IfOk, IfErr, IsPermutation, nat_eq, Bool, true, ◌⊎◌, length, arith}
use Rattle.std.proofs.{lemmas.List.Sorted.{IsPermutation-sym}, lemmas.Bool.{eqb-true}}
use Rattle.std.specs.List.{AllByRecursion}
use Rattle.t1_join.{proofs.OrderLemmas.{leaves_from_left, same_leaves}, specs.Groupings.{Grouping, one, two, from_left, leaves}}
use Rattle.t1_font.specs.{FontValue.{FontValue}, IsFont.{IsFont}}
use Rattle.t1_algebra.specs.{Interpreter.{Names}, Keep.{subset, IsOf}, Profile.{profile}, Alike.{DrawsAlike}, States.{Join, joined_font, KeepsLimits}, Conflicts.{Conflict, conflict}}
use Rattle.t1_algebra.specs.{Groupings.{Merges, union_all, folded}, Merges.{DrawsBoth, ComesTo, DrawsAll, MergesToNone}}
use Rattle.t1_algebra.proofs.{Drawings.{left_alike, right_alike}, Conflicts.{no_conflict, conflict_back}, Fonts.{two_subsets, font_within, fonts_within, any_order_of_fonts}}
use Rattle.t1_algebra.proofs.Orders.{one_result, any_order, join_self, join_back, accepted_from_pairs, pairs_from_accepted, folded_is, within}
use Rattle.t1_algebra.proofs.ManyMerges.{left_append, inner, no_tree, each_font, cut_at, all_before, all_of_font, one_subset, all_draw}
use Rattle.t1_subset.specs.{declared.conflict.Conflict.{Conflict as Refusal}, Refusals.{Tells}}
use Rattle.t1_subset.specs.Merger.{StopsAt, NotMerged, MergesSubsets, MergesAllSubsets, IsMerger, MergesItself, AcceptsAllJoin, MergesInAnyOrder}
use Rattle.t1_subset.specs.declared.conflict.Conflict.TheVariants as refusal

-- if there is no conflict, a refusal tells want of memory
pub tells_none : (e : Refusal) (c : Option Conflict) → c ≡ None → Tells e c → e ≡ refusal.Memory
tells_none e c k h = grind arith

-- a refusal that tells of a conflict is not that there are no fonts
pub never_empty : (r : Result FontValue Refusal) (c : Option Conflict) → IfErr r (λ e. Tells e c) → IfErr r (λ e. ¬ (e ≡ refusal.Empty))
never_empty (Ok j) c h = tt
never_empty (Err e) c h = λ is. subst (λ (e : Refusal). Tells e c) is h

-- ---- two fonts

module _ (g h : FontValue) where
  -- the merger of two subsets of a font is the subset over both sets of names
  pub of_subsets : (r : Result FontValue Refusal) → IfOk r (λ j. Join profile g h × (j ≡ joined_font profile g h)) →
      IfErr r (λ e. Tells e (conflict profile g h)) → MergesSubsets g h r
  of_subsets (Ok j) ok err f w a b ia ib eg eh = ok.1 ∙ (λ i. joined_font profile (eg i) (eh i)) ∙ (two_subsets profile f w a b ia ib).1
  of_subsets (Err e) ok err f w a b ia ib eg eh =
      tells_none e (conflict profile g h)
      ((λ i. conflict profile (eg i) (eh i)) ∙ (no_conflict profile (subset profile f a) (subset profile f b)).1 (two_subsets profile f w a b ia ib).0) err

  -- each glyph of two fonts draws in their merger as it did
  pub draws_both : (r : Result FontValue Refusal) → IfOk r (λ j. Join profile g h × (j ≡ joined_font profile g h)) → IfOk r (λ j. DrawsBoth g h j)
  draws_both (Ok j) ok = (
    λ n k. subst (λ (j : FontValue). DrawsAlike g j n) (sym ok.1) (left_alike g h ok.0.states n k),
    λ n k. subst (λ (j : FontValue). DrawsAlike h j n) (sym ok.1) (right_alike g h ok.0.states n k),
  )
  draws_both (Err e) ok = tt

-- a merger is the join, or tells the lowest conflict, in the other order, too
pub other_order : (f g : FontValue) (r : Result FontValue Refusal) →
    IfOk r (λ j. Join profile f g × (j ≡ joined_font profile f g)) → IfErr r (λ e. Tells e (conflict profile f g)) → IsMerger g f r
other_order f g (Ok j) ok err = let b = join_back profile f g ok.0 in (b.0, ok.1 ∙ b.1)
other_order f g (Err e) ok err = subst (Tells e) (conflict_back profile f g) err

-- a font merged with itself is itself, or memory is wanting
pub itself : (f g : FontValue) → IsFont f → (r : Result FontValue Refusal) →
    IfOk r (λ j. Join profile f g × (j ≡ joined_font profile f g)) → IfErr r (λ e. Tells e (conflict profile f g)) → MergesItself f g r
itself f g w (Ok j) ok err e = ok.1 ∙ ap (λ (g : FontValue). joined_font profile f g) (sym e) ∙ (join_self profile f (font_within f w)).1
itself f g w (Err c) ok err e = tells_none c (conflict profile f g)
    (ap (λ (g : FontValue). conflict profile f g) (sym e) ∙ (no_conflict profile f f).1 (join_self profile f (font_within f w)).0) err

-- ---- subsets of one font

-- subsets of a font are refused for want of memory alone
subsets_never_stop : (f : FontValue) → IsFont f → (a : Names) (more : List Names) → AllByRecursion (IsOf f) (a ∷ more) →
    (e : Refusal) → StopsAt (subset profile f a) (map (subset profile f) more) e → e ≡ refusal.Memory
subsets_never_stop f w a more h e s =
    let c = cut_at (subset profile f) more s.before s.font s.after s.list in
    let is = all_before (IsOf f) c.before c.at c.after (subst (AllByRecursion (IsOf f)) c.list h.1) in
    let first : AllByRecursion (IsOf f) (a ∷ c.before) = (h.0, is.0) in
    let j : s.joined ≡ subset profile f (union_all (a ∷ c.before)) = one_subset f w a c.before first s.joined
    (subst (λ (t : List FontValue). Merges profile (from_left (one (subset profile f a)) t) s.joined) (sym c.images) s.merges) in
    tells_none e (conflict profile s.joined s.font)
    ((λ i. conflict profile (j i) (sym c.image i)) ∙ (no_conflict profile (subset profile f (union_all (a ∷ c.before))) (subset profile f c.at)).1
    (two_subsets profile f w (union_all (a ∷ c.before)) c.at (all_of_font f w a c.before first) is.1).0)
    s.tells

-- a merger of subsets of a font is the subset over all the sets, or memory is wanting
pub of_all_subsets : (fs : List FontValue) (r : Result FontValue Refusal) → IfOk r (λ j. ComesTo fs j) → IfErr r (λ e. NotMerged fs e) → MergesAllSubsets fs r
of_all_subsets fs (Ok j) ok err f w a more h e = one_subset f w a more h j (subst (λ (t : List FontValue). ComesTo t j) e ok)
of_all_subsets fs (Err c) ok err f w a more h e =
    elim (subst (λ (t : List FontValue). NotMerged t c) e err) [ inl m ↦ m | inr s ↦ subsets_never_stop f w a more h c s ]

-- ---- many fonts

-- if fonts come to a font, each of their glyphs draws in it as it did
pub draws_all : (fs : List FontValue) (r : Result FontValue Refusal) → IfOk r (λ j. ComesTo fs j) → IfOk r (λ j. DrawsAll fs j)
draws_all fs (Err e) h = tt
draws_all [] (Ok j) h = absurd h
draws_all (f ∷ fs) (Ok j) h = subst (λ (gs : List FontValue). DrawsAll gs j) (leaves_from_left (one f) fs) (all_draw (from_left (one f) fs) j h)

-- fonts that merge from left to right are refused for want of memory alone
pub never_stops : (f : FontValue) (fs : List FontValue) (j : FontValue) →
    Merges profile (from_left (one f) fs) j → (e : Refusal) → StopsAt f fs e → e ≡ refusal.Memory
never_stops f fs j m e s =
    let front = from_left (one f) s.before in
    let cut : from_left (one f) fs ≡ from_left (two front (one s.font)) s.after =
    ap (from_left (one f)) s.list ∙ left_append (one f) s.before (s.font ∷ s.after) in
    let r = (inner (two front (one s.font)) s.after j (subst (λ (t : Grouping FontValue). Merges profile t j) cut m)).1 in
    let join : Join profile s.joined s.font = subst (λ (g : FontValue). Join profile s.joined g) (sym r.3)
    (subst (λ (p : FontValue). Join profile p r.1) (one_result profile front r.0 s.joined r.2 s.merges) r.4.0) in
    tells_none e (conflict profile s.joined s.font) ((no_conflict profile s.joined s.font).1 join) s.tells

-- if A makes a refusal want of memory, it is want of memory or A does not hold
or_memory : {A : Type 0} (e : Refusal) → (A → e ≡ refusal.Memory) → (e ≡ refusal.Memory) ⊎ ¬ A
or_memory refusal.Memory h = inl refl
or_memory e h = inr (λ a. let k = h a in cc)

-- fonts that merge are refused for want of memory alone
refusal_is : (f : FontValue) (fs : List FontValue) (e : Refusal) (j : FontValue) →
    NotMerged (f ∷ fs) e → Merges profile (from_left (one f) fs) j → e ≡ refusal.Memory
refusal_is f fs e j h m = elim h [ inl k ↦ k | inr s ↦ never_stops f fs j m e s ]

-- a list of fonts is accepted exactly if all of them join
pub accepts : (fs : List FontValue) → AllByRecursion IsFont fs → (r : Result FontValue Refusal) →
    IfOk r (λ j. ComesTo fs j) → IfErr r (λ e. NotMerged fs e) → AcceptsAllJoin fs r
accepts [] w (Ok j) ok err = ok
accepts [] w (Err e) ok err = inr (λ a. a)
accepts (f ∷ fs) w (Ok j) ok err =
    let folded-is = folded_is profile f fs j ok in (
      pairs_from_accepted profile f fs j ok,
      subst KeepsLimits (sym folded-is) (within profile (from_left (one f) fs) j ok (fonts_within (from_left (one f) fs) (each_font f fs w))),
    )
accepts (f ∷ fs) w (Err e) ok err = or_memory e (λ a. refusal_is f fs e (folded profile f fs) err (accepted_from_pairs profile f fs a.0 a.1))

-- each order and grouping comes to the font that is answered, or to none
pub in_any_order : (fs : List FontValue) → AllByRecursion IsFont fs → (r : Result FontValue Refusal) →
    IfOk r (λ j. ComesTo fs j) → IfErr r (λ e. NotMerged fs e) → MergesInAnyOrder fs r
in_any_order [] w (Ok j) ok err t p = absurd ok
in_any_order [] w (Err e) ok err t p = inr (λ k m. no_tree t p)
in_any_order (f ∷ fs) w (Ok j) ok err t p =
    let all = any_order_of_fonts profile (from_left (one f) fs) t
    (subst (λ (l : List FontValue). IsPermutation l (leaves t)) (sym (leaves_from_left (one f) fs)) p) (each_font f fs w) j ok in
    (all.1, all.2)
in_any_order (f ∷ fs) w (Err e) ok err t p =
    let from-left : IsPermutation (leaves (from_left (one f) fs)) (leaves t) =
    subst (λ (l : List FontValue). IsPermutation l (leaves t)) (sym (leaves_from_left (one f) fs)) p in
    let to-left = IsPermutation-sym (leaves (from_left (one f) fs)) (leaves t) from-left in
    let fonts = same_leaves IsFont (from_left (one f) fs) t from-left (each_font f fs w) in
    elim (or_memory {A = (k : FontValue) × Merges profile t k} e
    (λ a. refusal_is f fs e a.0 err (any_order profile t (from_left (one f) fs) to-left (fonts_within t fonts) a.0 a.1))) [
      | inl k ↦ inl k
      | inr n ↦ inr (λ k m. n (k, m))
    ]

-- no fonts merge to none
pub none_in_any_order : (fs : List FontValue) (b : Bool) → b ≡ nat_eq (length fs) 0 → b ≡ true → (t : Grouping FontValue) → IsPermutation fs (leaves t) →
    (refusal.Empty ≡ refusal.Memory) ⊎ MergesToNone t
none_in_any_order [] b e h t p = inr (λ k m. no_tree t p)
none_in_any_order (f ∷ fs) b e h t p = absurd (let none = eqb-true (length (f ∷ fs)) 0 (sym e ∙ h) in omega (arith, none))
