-- Subsets and joins of fonts are fonts, and subsets of one font join in any order and grouping.
use Rattle.std.proofs.{Common.{◌≡◌, ℕ, ◌||◌, List, [], ◌∷◌, refl, sym, ◌∙◌, ap, IsPermutation, ◌≤◌, subst}, lemmas.List.Folds.{list_any-append}, lemmas.List.Sorted.{list_any-IsPermutation}}
use Rattle.t1_join.specs.Groupings.{Grouping, one, two, map_grouping, EachLeaf, leaves}
use Rattle.t1_font.{specs.{FontValue.{FontValue, name_cmp, weight_limit, weight}, IsFont.{IsFont}}, proofs.Kept.{restrict_is_font, join_is_font}}
use Rattle.t1_algebra.specs.{Keep.{subset, keep, kept, IsOf}, Groupings.{union_all, Merges}, States.{KeepsLimits, Join, joined_font}}
use Rattle.t1_algebra.proofs.{Words.{list_any, nat_list_cmp_total, Interpreter, Names}, Sets.{name_same, cases}, Subsets.{join_is_subset, subsets_join}, Kept.{keep_closed}}
use Rattle.t1_algebra.proofs.{Orders.{any_order, one_result, join_back, each_weaker}, JoinedStates.{joined_are_entries}}
use Rattle.std.specs.FinSet as sets

-- the union of the sets at the leaves, in their grouping
abbrev pub all_of : Grouping Names → Names
all_of (one a) = a
all_of (two s t) = sets.union (all_of s) (all_of t)

-- a name is in the union if it is in the set of some leaf
in_all_of : (t : Grouping Names) (n : List ℕ) → sets.contains (all_of t) n ≡ list_any (λ s. sets.contains s n) (leaves t)
in_all_of (one a) n = grind cases
in_all_of (two s t) n = sets.contains-union nat_list_cmp_total (all_of s) (all_of t) n
    ∙ (λ i. in_all_of s n i || in_all_of t n i) ∙ sym (list_any-append (λ s. sets.contains s n) (leaves s) (leaves t))

-- a name is in the union of a list if it is in some set of the list
in_union_all : (all : List Names) (n : List ℕ) → sets.contains (union_all all) n ≡ list_any (λ s. sets.contains s n) all
in_union_all [] n = sets.contains-empty name_cmp n
in_union_all (a ∷ rest) n = sets.contains-union nat_list_cmp_total a (union_all rest) n ∙ ap (λ b. sets.contains a n || b) (in_union_all rest n)

-- the union is the same in every order and grouping
pub all_alike : (all : List Names) (t : Grouping Names) → IsPermutation all (leaves t) → all_of t ≡ union_all all
all_alike all t p = sets.same_set nat_list_cmp_total name_same _ _
    (λ n. in_all_of t n ∙ sym (list_any-IsPermutation (λ s. sets.contains s n) all (leaves t) p) ∙ sym (in_union_all all n))

-- the union of sets of the font's names is a set of its names
pub all_is_of : (f : FontValue) (t : Grouping Names) → EachLeaf (IsOf f) t → IsOf f (all_of t)
all_is_of f (one a) i n w = i n w
all_is_of f (two s t) i n w = grind (cases, w, sets.contains-union nat_list_cmp_total (all_of s) (all_of t) n, all_is_of f s i.0 n, all_is_of f t i.1 n)

-- a font is within the limits
pub font_within : (f : FontValue) → IsFont f → KeepsLimits f
font_within f h = record { weight = h.light; glyphs = h.glyphs.few }

pub fonts_within : (t : Grouping FontValue) → EachLeaf IsFont t → EachLeaf KeepsLimits t
fonts_within t h = each_weaker IsFont KeepsLimits font_within t h

module _ {O : Type 0} (m : Interpreter O) where
  -- a subset of a font is a font
  pub subset_is_font : (f : FontValue) → IsFont f → (a : Names) → IsOf f a → IsFont (subset m f a)
  subset_is_font f h a i = restrict_is_font (sets.contains (keep m f a)) (sets.contains (kept m f a)) f h (keep_closed m f a h.glyphs.notdef i).notdef

  -- the join of two fonts is a font
  pub joined_is_font : (f g : FontValue) → IsFont f → IsFont g → Join m f g → IsFont (joined_font m f g)
  joined_is_font f g h k j =
      let e = joined_are_entries m f g j.states in
      subst IsFont (sym e) (join_is_font f g h k j.states.shells j.states.kinds j.within.glyphs
      (subst (λ (j : FontValue). weight j ≤ weight_limit) e j.within.weight))

  -- two subsets of a font join in either order, to the subset over both sets of names
  pub two_subsets : (f : FontValue) → IsFont f → (a b : Names) → IsOf f a → IsOf f b →
      Join m (subset m f a) (subset m f b) × (joined_font m (subset m f a) (subset m f b) ≡ subset m f (sets.union a b))
      × Join m (subset m f b) (subset m f a) × (joined_font m (subset m f b) (subset m f a) ≡ subset m f (sets.union a b))
  two_subsets f h a b i j =
      let join = subsets_join m f h.glyphs.notdef a b i j (font_within f h) in
      let same = join_is_subset m f h.glyphs.notdef a b i j in
      let back = join_back m (subset m f a) (subset m f b) join in
      (join, same, back.0, sym back.1 ∙ same)

  -- subsets of one font merge in their grouping to the subset over the union
  pub tree_merges : (f : FontValue) (h : IsFont f) (t : Grouping Names) → EachLeaf (IsOf f) t → Merges m (map_grouping (subset m f) t) (subset m f (all_of t))
  tree_merges f h (one a) i = refl
  tree_merges f h (two s t) i =
      let both = two_subsets f h (all_of s) (all_of t) (all_is_of f s i.0) (all_is_of f t i.1) in
      (subset m f (all_of s), subset m f (all_of t), tree_merges f h s i.0, tree_merges f h t i.1, (both.0, both.1))

  -- subsets of a font merge in any order and grouping to the subset over all the sets of names
  pub many_subsets : (f : FontValue) → IsFont f → (all : List Names) (t : Grouping Names) → IsPermutation all (leaves t) → EachLeaf (IsOf f) t →
      Merges m (map_grouping (subset m f) t) (subset m f (union_all all))
  many_subsets f h all t p i = subst (λ (a : Names). Merges m (map_grouping (subset m f) t) (subset m f a)) (all_alike all t p) (tree_merges f h t i)

  -- what fonts merge to is a font
  pub merges_are_fonts : (t : Grouping FontValue) (j : FontValue) → Merges m t j → EachLeaf IsFont t → IsFont j
  merges_are_fonts (one f) j k h = subst IsFont k h
  merges_are_fonts (two s t) j k h = subst IsFont k.4.1 (joined_is_font k.0 k.1 (merges_are_fonts s k.0 k.2 h.0) (merges_are_fonts t k.1 k.3 h.1) k.4.0)

  -- fonts that merge in one order and grouping merge in every other, to the same font and to no other
  pub any_order_of_fonts : (s t : Grouping FontValue) → IsPermutation (leaves s) (leaves t) → EachLeaf IsFont s → (j : FontValue) → Merges m s j →
      IsFont j × Merges m t j × ((k : FontValue) → Merges m t k → k ≡ j)
  any_order_of_fonts s t p h j k =
      let there = any_order m s t p (fonts_within s h) j k in
      (merges_are_fonts s j k h, there, λ q w. one_result m t q j w there)
