-- Merges from left to right, merges of subsets of one font, and how the glyphs of many fonts draw.
use Rattle.std.proofs.Common.{◌≡◌, List, [], ◌∷◌, ◌++◌, map, refl, sym, ◌∙◌, ap, subst, IsPermutation, ◌<◌, ℕ, true, length, arith, is_some}
use Rattle.std.proofs.{lemmas.List.Sorted.{IsPermutation-refl, length_permutation}, lemmas.List.{length-append}}
use Rattle.t1_join.{proofs.OrderLemmas.{leaves_from_left, all_of_both, each_leaf}, specs.Groupings.{Grouping, one, two, EachLeaf, map_grouping, from_left, leaves}}
use Rattle.t1_font.specs.{FontValue.{FontValue, name_cmp}, IsFont.{IsFont}}
use Rattle.t1_algebra.specs.{Keep.{subset, has, IsOf}, Profile.{profile}, Groupings.{Merges, union_all}, Merges.{DrawsAll}, Alike.{DrawsAlike}}
use Rattle.t1_algebra.proofs.{Words.{AllByRecursion, nat_list_cmp_total, Names}, Fonts.{many_subsets}, Orders.{one_result, all_weaker}, Sets.{cases}, Drawings.{left_alike, right_alike}}
use Rattle.std.specs.FinSet as sets

-- ---- from left to right

-- a list of fonts merged from left to right may be merged in two parts
pub left_append : {X : Type 0} (t : Grouping X) (xs ys : List X) → from_left t (xs ++ ys) ≡ from_left (from_left t xs) ys
left_append t [] ys = refl
left_append t (x ∷ xs) ys = left_append (two t (one x)) xs ys

-- the last font of a list is merged last
pub left_snoc : {X : Type 0} (t : Grouping X) (xs : List X) (x : X) → from_left t (xs ++ x ∷ []) ≡ two (from_left t xs) (one x)
left_snoc t xs x = left_append t xs (x ∷ [])

-- merges from left to right of the images of a list
left_map : {X Y : Type 0} (g : X → Y) (t : Grouping X) (xs : List X) → map_grouping g (from_left t xs) ≡ from_left (map_grouping g t) (map g xs)
left_map g t [] = refl
left_map g t (x ∷ xs) = left_map g (two t (one x)) xs

-- what holds of each element of a list holds at each leaf
left_each : {X : Type 0} (P : X → Type 0) (x : X) (xs : List X) → AllByRecursion P (x ∷ xs) → EachLeaf P (from_left (one x) xs)
left_each P x xs h = each_leaf P (from_left (one x) xs) (subst (AllByRecursion P) (sym (leaves_from_left (one x) xs)) h)

-- if merges that go on from a grouping come to a font, so does the grouping
pub inner : (t : Grouping FontValue) (xs : List FontValue) (j : FontValue) → Merges profile (from_left t xs) j → (p : FontValue) × Merges profile t p
inner t [] j m = (j, m)
inner t (x ∷ xs) j m = let r = inner (two t (one x)) xs j m in (r.1.0, r.1.2)

-- each grouping has a leaf
has_leaves : {X : Type 0} (t : Grouping X) → 0 < length (leaves t)
has_leaves (one x) = omega arith
has_leaves (two s t) = omega (arith, has_leaves s, length-append (leaves s) (leaves t))

-- no grouping has no fonts
pub no_tree : {X : Type 0} (t : Grouping X) → IsPermutation [] (leaves t) → ⊥
no_tree t p = omega (arith, has_leaves t, length_permutation [] (leaves t) p)

-- fonts in a list are fonts at the leaves
pub each_font : (f : FontValue) (fs : List FontValue) → AllByRecursion IsFont (f ∷ fs) → EachLeaf IsFont (from_left (one f) fs)
each_font f fs w = left_each IsFont f fs w

-- ---- subsets of one font

-- a list cut at the element whose image is z
pub record CutAt {X Y : Type 0} (g : X → Y) (xs : List X) (ys : List Y) (z : Y) : Type 0 where
  pub before : List X
  pub at : X
  pub after : List X
  pub list : xs ≡ before ++ at ∷ after
  pub images : map g before ≡ ys
  pub image : g at ≡ z

-- a list is cut at the element at which its images are cut
pub cut_at : {X Y : Type 0} (g : X → Y) (xs : List X) (ys : List Y) (z : Y) (zs : List Y) → map g xs ≡ ys ++ z ∷ zs → CutAt g xs ys z
cut_at g [] [] z zs e = cc
cut_at g [] (y ∷ ys) z zs e = cc
cut_at g (x ∷ xs) [] z zs e = record { before = []; at = x; after = xs; list = refl; images = refl; image = cc }
cut_at g (x ∷ xs) (y ∷ ys) z zs e =
    let c = cut_at g xs ys z zs cc in
    let h : g x ≡ y = cc in
    record { before = x ∷ c.before; at = c.at; after = c.after; list = ap (λ t. x ∷ t) c.list; images = λ i. h i ∷ c.images i; image = c.image }

-- what holds of all elements holds of those before one, and of that one
pub all_before : {X : Type 0} (P : X → Type 0) (xs : List X) (x : X) (ys : List X) → AllByRecursion P (xs ++ x ∷ ys) → AllByRecursion P xs × P x
all_before P [] x ys h = (tt, h.0)
all_before P (w ∷ xs) x ys h = let r = all_before P xs x ys h.1 in ((h.0, r.0), r.1)

module _ (f : FontValue) (w : IsFont f) where
  -- names of sets of the font's names are names of the font
  pub all_of_font : (a : Names) (more : List Names) → AllByRecursion (IsOf f) (a ∷ more) → IsOf f (union_all (a ∷ more))
  all_of_font a [] h n k = grind (cases, k, sets.contains-union nat_list_cmp_total a sets.empty n, sets.contains-empty name_cmp n, h.0 n)
  all_of_font a (b ∷ more) h n k = grind (cases, k, sets.contains-union nat_list_cmp_total a (union_all (b ∷ more)) n, h.0 n, all_of_font b more h.1 n)

  -- subsets of a font merge from left to right to the subset over all the sets
  pub all_merge : (a : Names) (more : List Names) → AllByRecursion (IsOf f) (a ∷ more) →
      Merges profile (from_left (one (subset profile f a)) (map (subset profile f) more)) (subset profile f (union_all (a ∷ more)))
  all_merge a more h = subst (λ (t : Grouping FontValue). Merges profile t (subset profile f (union_all (a ∷ more)))) (left_map (subset profile f) (one a) more)
      (many_subsets profile f w (a ∷ more) (from_left (one a) more)
      (subst (IsPermutation (a ∷ more)) (sym (leaves_from_left (one a) more)) (IsPermutation-refl (a ∷ more))) (left_each (IsOf f) a more h))

  -- subsets of a font merge from left to right to no other font
  pub one_subset : (a : Names) (more : List Names) → AllByRecursion (IsOf f) (a ∷ more) → (j : FontValue) →
      Merges profile (from_left (one (subset profile f a)) (map (subset profile f) more)) j → j ≡ subset profile f (union_all (a ∷ more))
  one_subset a more h j m =
      one_result profile (from_left (one (subset profile f a)) (map (subset profile f) more)) j (subset profile f (union_all (a ∷ more))) m (all_merge a more h)

-- ---- glyphs

-- a glyph that draws alike from one font to a second and on to a third does so from the first to the third
pub alike_trans : (f p j : FontValue) (n : List ℕ) → DrawsAlike f p n → DrawsAlike p j n → DrawsAlike f j n
alike_trans f p j n a b = record {
  charstring = b.charstring ∙ a.charstring;
  answer = λ c is. b.answer c (a.charstring ∙ is) ∙ a.answer c is;
  answer3 = λ c is. b.answer3 c (a.charstring ∙ is) ∙ a.answer3 c is;
  executes = λ c is. b.executes c (a.charstring ∙ is) ∙ a.executes c is;
  draws = b.draws ∙ a.draws;
  draws3 = b.draws3 ∙ a.draws3;
}

-- each glyph of the second font draws in the first as it did
abbrev pub Draws : FontValue → FontValue → Type 0
Draws j f = (n : List ℕ) → has f n ≡ true → DrawsAlike f j n

-- if each glyph of some fonts draws alike in p, and those of p in j, they draw alike in j
all_on : (p j : FontValue) → Draws j p → (fs : List FontValue) → AllByRecursion (Draws p) fs → AllByRecursion (Draws j) fs
all_on p j b = all_weaker (Draws p) (Draws j) (λ f a n h. alike_trans f p j n (a n h) (b n (ap is_some (a n h).charstring ∙ h)))

-- each glyph of fonts draws in what they merge to as it did
pub all_draw : (t : Grouping FontValue) (j : FontValue) → Merges profile t j → DrawsAll (leaves t) j
all_draw (one f) j m = (
  subst (λ (j : FontValue). Draws j f) m
      (λ n h. record { charstring = refl; answer = λ c is. refl; answer3 = λ c is. refl; executes = λ c is. refl; draws = refl; draws3 = refl }),
  tt,
)
all_draw (two s t) j m =
    let l : Draws j m.0 = subst (λ (j : FontValue). Draws j m.0) m.4.1 (left_alike m.0 m.1 m.4.0.states) in
    let r : Draws j m.1 = subst (λ (j : FontValue). Draws j m.1) m.4.1 (right_alike m.0 m.1 m.4.0.states) in
    all_of_both (Draws j) (leaves s) (leaves t) (all_on m.0 j l (leaves s) (all_draw s m.0 m.2)) (all_on m.1 j r (leaves t) (all_draw t m.1 m.3))
