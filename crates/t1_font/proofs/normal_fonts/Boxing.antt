-- Fonts with one box stay as they are when they are filled and get one box again.
use Rattle.std.proofs.{Common.{◌≡◌, ℕ, ◌≤◌, arith, true, List, [], ◌∷◌, map, Option, Some, None, refl, sym, ap, ◌∙◌}, lemmas.Bool.{cond-true, and_parts, and_from, leb-true, le-leb}}
use Rattle.std.specs.{List.{AllByRecursion, list_all}, Option.{option_map, option_and_then}, Cmp.{nat_cmp_total}, FinMap.{get, entries, nat_cmp-IsAntisymmetric}}
use Rattle.t1_font.specs.{FontValue.{FontValue, SparseArray, declared_count, total, subr_weight, weight, weight_limit}, Maps.{merged}, Normalizing.{stubs_at, below_count, with_stubs, filled}}
use Rattle.t1_font.specs.FontBoxes.{Side, side_in, texts_at, clear_of, with_texts, can_take, can_have_at, can_have, box_of, boxes_of, font_with, boxed_by, boxed}
use Rattle.t1_text.specs.Boxes.{Box, joined_box}
use Rattle.t1_font.proofs.{MapLemmas.{joined, get-merged, total-le}, normal_fonts.BoxFonts.{taken_so}, normal_fonts.Boxes.{by_cases, same_box_stays, have_it, keep_it}}

-- ---- a font that is filled

-- Subrs with stubs weigh no less
heavier_subrs : (len_iv : ℕ) (indices : List ℕ) (m : SparseArray) (es : List (ℕ × List ℕ)) →
    total (subr_weight len_iv) (entries m) ≤ total (subr_weight len_iv) (entries (with_stubs indices m es))
heavier_subrs len_iv indices m [] = omega arith
heavier_subrs len_iv indices m (e ∷ es) =
    total-le nat_cmp_total nat_cmp-IsAntisymmetric (subr_weight len_iv) (subr_weight len_iv) m (merged m (stubs_at indices))
    (λ q v is. (
      v,
      get-merged nat_cmp_total nat_cmp-IsAntisymmetric m (stubs_at indices) q
          ∙ ap (λ (o : Option (List ℕ)). joined o (get (stubs_at indices) q)) is,
      omega arith,
    ))

module _ (indices : List ℕ) where
  -- a font with stubs weighs no less
  heavier : (f : FontValue) → weight f ≤ weight (filled indices f)
  heavier f = omega (arith, heavier_subrs f.shell.len_iv (below_count (declared_count f.shell.subrs) indices) f.subrs (entries f.subrs))

  -- a box that it can have, the font can have without stubs
  taken_lighter : (u : Box) (f : FontValue) (x : List ℕ × List ℕ) (s : Side) → can_take u (filled indices f) x s ≡ true → can_take u f x s ≡ true
  taken_lighter u f x s h =
      let k = taken_so u (filled indices f) x s h in
      let limit = leb-true (weight (with_texts (filled indices f) x)) weight_limit k.light in
      let light = le-leb (weight (with_texts f x)) weight_limit (omega (arith, heavier (with_texts f x), limit)) in
      and_from _ _ k.fit (and_from _ _ k.normal (and_from _ _ k.stays light))

  lighter : (u : Box) (f : FontValue) → can_have u (filled indices f) ≡ true → can_have u f ≡ true
  lighter u f h = by_side (side_in (clear_of f.shell)) h
    where
      by_side : (o : Option Side) → can_have_at u (filled indices f) o ≡ true → can_have_at u f o ≡ true
      by_side None t = t
      by_side (Some s) t = taken_lighter u f (texts_at u (clear_of f.shell) s) s t

  all_lighter : (u : Box) (fs : List FontValue) → list_all (can_have u) (map (filled indices) fs) ≡ true → list_all (can_have u) fs ≡ true
  all_lighter u [] h = refl
  all_lighter u (f ∷ fs) h =
      let both = and_parts (can_have u (filled indices f)) (list_all (can_have u) (map (filled indices) fs)) h in
      and_from _ _ (lighter u f both.0) (all_lighter u fs both.1)

  -- it has the same box
  boxes_filled : (fs : List FontValue) → boxes_of (map (filled indices) fs) ≡ boxes_of fs
  boxes_filled [] = refl
  boxes_filled (f ∷ fs) = λ i. option_and_then (λ b. option_map (λ bs. b ∷ bs) (boxes_filled fs i)) (box_of f.shell)

  box_filled : (u : Box) (fs : List FontValue) → AllByRecursion (λ f. box_of f.shell ≡ Some u) fs →
      AllByRecursion (λ f. box_of f.shell ≡ Some u) (map (filled indices) fs)
  box_filled u [] h = tt
  box_filled u (f ∷ fs) h = (h.0, box_filled u fs h.1)

  -- and gets another as the font does
  with_filled : (u : Box) (fs : List FontValue) → map (font_with u) (map (filled indices) fs) ≡ map (filled indices) (map (font_with u) fs)
  with_filled u [] = refl
  with_filled u (f ∷ fs) = ap (λ (gs : List FontValue). filled indices (font_with u f) ∷ gs) (with_filled u fs)

  -- fonts that stay without stubs stay with them
  filled_stay : (fs : List FontValue) → boxed fs ≡ fs → boxed (map (filled indices) fs) ≡ map (filled indices) fs
  filled_stay fs h = by_cases (λ gs. gs ≡ map (filled indices) fs) (map (filled indices) fs) (λ k. refl) (λ bs e t.
      let u = joined_box bs in
      let own = sym (boxes_filled fs) ∙ e in
      let made : boxed fs ≡ map (font_with u) fs = ap (boxed_by fs) own ∙ cond-true (list_all (can_have u) fs) _ _ (all_lighter u fs t) in
      with_filled u fs ∙ ap (map (filled indices)) (sym made ∙ h))

  -- fonts with one box stay when they are filled and get one box again
  pub filled_boxed : (fs : List FontValue) → boxed (map (filled indices) (boxed fs)) ≡ map (filled indices) (boxed fs)
  filled_boxed fs = by_cases (λ gs. boxed (map (filled indices) gs) ≡ map (filled indices) gs) fs (filled_stay fs) (λ bs e t.
      let u = joined_box bs in
      same_box_stays u (map (filled indices) (map (font_with u) fs)) (box_filled u (map (font_with u) fs) (have_it u fs t))
      (with_filled u (map (font_with u) fs) ∙ ap (map (filled indices)) (keep_it u fs t)))
