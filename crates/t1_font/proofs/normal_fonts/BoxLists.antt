-- Lists of fonts with one box.
use Rattle.std.proofs.Common.{◌≡◌, ℕ, ◌+◌, ◌<◌, Bool, true, false, cond, List, [], ◌∷◌, map, length, get_or, drop, Option, Some, None, is_some, Result, Ok, Err, refl, sym, ap, ◌∙◌, inl, inr}
use Rattle.std.proofs.{lemmas.Bool.{cond-true, cond-false, and_parts, cases_Bool}, lemmas.List.{at_drop_more}, lemmas.Slice.Eq.{bytes_eq-Decides}, lemmas.Option.{none-some, same_Some}}
use Rattle.std.specs.{Prelude.{◌&&◌}, Global.{Vec}, Result.{IfOk}, List.{AllByRecursion, list_all}, Option.{option_map, option_and_then}}
use Rattle.t1_font.specs.{FontValue.{FontValue}, FontBoxes.{box_of, font_with, can_have, if_can, boxes_of, all_with, boxed_by, boxed}, BoxViews.{are_alike, wanted_box}}
use Rattle.t1_text.specs.Boxes.{Box, same_box, joined_box}
use Rattle.t1_font.proofs.normal_fonts.Boxes.{one_box_stays}
use Rattle.t1_text.proofs.BoxPlaces.{box_same}

-- ---- what an answer tells of a test

module _ {A B : Type 0} (f : A → B) where
  -- something was answered where a test passed
  pub some_so : (b : Bool) (o : Option A) (y : B) → option_map f o ≡ cond b (Some y) None → is_some o ≡ b
  some_so true None y e = absurd (none-some y e)
  some_so true (Some x) y e = refl
  some_so false None y e = refl
  some_so false (Some x) y e = absurd (none-some (f x) (sym e))

  -- and what
  pub some_is : (b : Bool) (o : Option A) (x : A) (y : B) → option_map f o ≡ cond b (Some y) None → o ≡ Some x → (b ≡ true) × (f x ≡ y)
  some_is true o x y e is = (refl, same_Some (f x) y (sym (ap (option_map f) is) ∙ e))
  some_is false o x y e is = absurd (none-some (f x) (sym (sym (ap (option_map f) is) ∙ e)))

  pub none_is : (b : Bool) (o : Option A) (y : B) → option_map f o ≡ cond b (Some y) None → o ≡ None → b ≡ false
  none_is true o y e is = absurd (none-some y (sym (ap (option_map f) is) ∙ e))
  none_is false o y e is = refl

-- ---- one test for a list

module _ {A : Type 0} (p : A → Bool) where
  -- what is left after one more
  all_step : (xs : List A) (i : ℕ) (d : A) → i < length xs → list_all p (drop i xs) ≡ (p (get_or xs i d) && list_all p (drop (i + 1) xs))
  all_step xs i d h = at_drop_more (list_all p) xs i d h

  pub all_fails : (xs : List A) (i : ℕ) (x : A) → i < length xs → x ≡ get_or xs i x → p x ≡ false → list_all p (drop i xs) ≡ list_all p xs →
      false ≡ list_all p xs
  all_fails xs i x h is t so_far = sym (ap (λ (b : Bool). b && list_all p (drop (i + 1) xs)) (ap p (sym is) ∙ t)) ∙ (sym (all_step xs i x h) ∙ so_far)

  pub all_more : (xs : List A) (i : ℕ) (x : A) → i < length xs → x ≡ get_or xs i x → p x ≡ true → list_all p (drop i xs) ≡ list_all p xs →
      list_all p (drop (i + 1) xs) ≡ list_all p xs
  all_more xs i x h is t so_far = sym (ap (λ (b : Bool). b && list_all p (drop (i + 1) xs)) (ap p (sym is) ∙ t)) ∙ (sym (all_step xs i x h) ∙ so_far)

-- fonts that can all have a box have it
pub each_can : (u : Box) (fs : List FontValue) → list_all (can_have u) fs ≡ true → map (if_can u) fs ≡ map (font_with u) fs
each_can u [] h = refl
each_can u (f ∷ fs) h =
    let both = and_parts (can_have u f) (list_all (can_have u) fs) h in
    λ i. cond-true (can_have u f) (font_with u f) f both.0 i ∷ each_can u fs both.1 i

-- the one box of fonts that have boxes, where each can have it
pub boxed_so : (fs : List FontValue) (u : Box) → Some u ≡ option_map joined_box (boxes_of fs) → list_all (can_have u) fs ≡ true →
    map (if_can u) fs ≡ boxed fs
boxed_so fs u one can = by_boxes (boxes_of fs) refl one
  where
    by_boxes : (o : Option (List Box)) → boxes_of fs ≡ o → Some u ≡ option_map joined_box o → map (if_can u) fs ≡ boxed_by fs o
    by_boxes None e k = absurd (none-some u (sym k))
    by_boxes (Some bs) e k =
        let is : u ≡ joined_box bs = same_Some u (joined_box bs) k in
        each_can u fs can
        ∙ (sym (cond-true (list_all (can_have u) fs) (map (font_with u) fs) fs can) ∙ ap (λ (v : Box). all_with v fs) is)

-- fonts whose boxes are spelled like one have that one
have_alike : (b : Box) (fs : List FontValue) (bs : List Box) → boxes_of fs ≡ Some bs → list_all (same_box b) bs ≡ true →
    AllByRecursion (λ f. box_of f.shell ≡ Some b) fs
have_alike b [] bs e h = tt
have_alike b (f ∷ fs) bs e h = by_parts (box_of f.shell) (boxes_of fs) refl (λ cs t k. have_alike b fs cs t k) e
  where
    by_parts : (o : Option Box) (q : Option (List Box)) → box_of f.shell ≡ o →
        ((cs : List Box) → q ≡ Some cs → list_all (same_box b) cs ≡ true → AllByRecursion (λ f. box_of f.shell ≡ Some b) fs) →
        option_and_then (λ b. option_map (λ bs. b ∷ bs) q) o ≡ Some bs → AllByRecursion (λ f. box_of f.shell ≡ Some b) (f ∷ fs)
    by_parts None q r more k = absurd (none-some bs k)
    by_parts (Some c) None r more k = absurd (none-some bs k)
    by_parts (Some c) (Some cs) r more k =
        let is : c ∷ cs ≡ bs = same_Some (c ∷ cs) bs k in
        let both = and_parts (same_box b c) (list_all (same_box b) cs) (ap (list_all (same_box b)) is ∙ h) in
        (r ∙ ap Some (sym (box_same b c both.0)), more cs refl both.1)

-- a box is spelled like itself
box_itself : (b : Box) → same_box b b ≡ true
box_itself b =
    let same = λ (w : List ℕ). (bytes_eq-Decides w w).1 refl in
    λ i. same b.llx i && same b.lly i && same b.urx i && same b.ury i

-- no box is of no font
no_boxes : (fs : List FontValue) → boxes_of fs ≡ Some [] → boxed fs ≡ fs
no_boxes [] e = refl
no_boxes (f ∷ fs) e = by_parts (box_of f.shell) (boxes_of fs) e
  where
    by_parts : (o : Option Box) (q : Option (List Box)) → option_and_then (λ b. option_map (λ bs. b ∷ bs) q) o ≡ Some [] → boxed (f ∷ fs) ≡ f ∷ fs
    by_parts None q k = absurd (none-some [] k)
    by_parts (Some c) None k = absurd (none-some [] k)
    by_parts (Some c) (Some cs) k = let never : c ∷ cs ≡ [] = same_Some (c ∷ cs) [] k in cc

-- fonts stay where no box is wanted for them
pub unwanted : (fs : List FontValue) → wanted_box (boxes_of fs) ≡ None → boxed fs ≡ fs
unwanted fs h = by_boxes (boxes_of fs) refl h
  where
    by_boxes : (o : Option (List Box)) → boxes_of fs ≡ o → wanted_box o ≡ None → boxed fs ≡ fs
    by_boxes None e k = ap (boxed_by fs) e
    by_boxes (Some []) e k = no_boxes fs e
    by_boxes (Some (b ∷ bs)) e k = elim (cases_Bool (are_alike (b ∷ bs))) [
      | inl t ↦ one_box_stays (Some b) fs (have_alike b fs (b ∷ bs) e (ap (λ (c : Bool). c && list_all (same_box b) bs) (box_itself b) ∙ t))
      | inr t ↦ absurd (none-some (joined_box (b ∷ bs)) (sym k ∙ cond-false (are_alike (b ∷ bs)) None (Some (joined_box (b ∷ bs))) t))
    ]

-- where one is wanted, it is the one box for those that they have
pub wanted : (fs : List FontValue) (u : Box) → Some u ≡ wanted_box (boxes_of fs) → Some u ≡ option_map joined_box (boxes_of fs)
wanted fs u h = by_boxes (boxes_of fs) h
  where
    by_boxes : (o : Option (List Box)) → Some u ≡ wanted_box o → Some u ≡ option_map joined_box o
    by_boxes None k = absurd (none-some u (sym k))
    by_boxes (Some bs) k = elim (cases_Bool (are_alike bs)) [
      | inl t ↦ absurd (none-some u (sym (k ∙ cond-true (are_alike bs) None (Some (joined_box bs)) t)))
      | inr t ↦ k ∙ cond-false (are_alike bs) None (Some (joined_box bs)) t
    ]

-- sources that are these fonts are those fonts
pub same_fonts : {E : Type 0} (r : Result (Vec FontValue) E) (fs gs : List FontValue) → fs ≡ gs → IfOk r (λ all. all.items ≡ fs) →
    IfOk r (λ all. all.items ≡ gs)
same_fonts (Ok all) fs gs e h = h ∙ e
same_fonts (Err fault) fs gs e h = h
