-- The laws of fonts with one box.
use Rattle.std.proofs.Common.{◌≡◌, ℕ, Bool, true, false, cond, List, [], ◌∷◌, ◌++◌, map, Option, Some, None, inl, inr, refl, sym, ap, subst, ◌∙◌}
use Rattle.std.proofs.{lemmas.Bool.{cond-true, cond-false, cond_both, and_parts, cases_Bool, true≢false}, lemmas.Option.{none-some, same_Some}, lemmas.Slice.Eq.{bytes_eq-Decides}}
use Rattle.std.specs.{Prelude.{◌||◌, filter}, List.{AllByRecursion, fold, list_any, list_all}, declared.cmp.Ordering.{Ordering}, Ordering.{is_gt}, Option.{option_map, option_and_then}, Str.{bytes_eq}}
use Rattle.t1_bytes.specs.Laws.{AreBytes}
use Rattle.t1_font.specs.{FontValue.{FontValue, Shell}, IsFont.{IsFont}, NormalTexts.{same_both, normal_clear, normal_texts}}
use Rattle.t1_text.specs.{Numbers.{least_first, greatest_first, sooner, soonest}, Boxes.{Box, says_nothing, held, counting_boxes, joined_box, BoxPlace, place_in, at_place, box_place_text}}
use Rattle.t1_font.specs.FontBoxes.{Side, side_of, side_in, box_at, texts_at, texts_with, clear_of}
use Rattle.t1_font.specs.FontBoxes.{with_clear, box_of, with_box, with_texts, font_with, can_have_at, can_have, boxes_of, all_with, boxed_by, boxed}
use Rattle.t1_font.specs.NormalizingLaws.{without_clear, BoxedTwice, BoxedKeeps, BoxedAreFonts, BoxedAreNormal, OneShellStays}
use Rattle.t1_font.proofs.{normal_fonts.BoxFonts.{taken_so, had_is_font}, normal_fonts.BoxPlaces.{read_there, there_again, box_there, own_box}}
use Rattle.t1_text.proofs.{Bytes.{AreBytes-append}, BoxPlaces.{place_is}}

cond_same : {A : Type 0} (b : Bool) (x y z : A) → x ≡ z → y ≡ z → cond b x y ≡ z
cond_same true x y z h k = h
cond_same false x y z h k = k

-- ---- the one box of copies

module _ (u : Box) where
  -- as many copies of a box as there are fonts
  abbrev copies : List FontValue → List Box
  copies fs = map (λ _. u) fs

  all_stay : (fs : List FontValue) → says_nothing u ≡ true → filter says_nothing (copies fs) ≡ copies fs
  all_stay [] h = refl
  all_stay (f ∷ fs) h = cond-true (says_nothing u) _ _ h ∙ ap (λ (bs : List Box). u ∷ bs) (all_stay fs h)

  none_there : (fs : List FontValue) → says_nothing u ≡ false → list_any says_nothing (copies fs) ≡ false
  none_there [] h = refl
  none_there (f ∷ fs) h = ap (λ (b : Bool). b || list_any says_nothing (copies fs)) h ∙ none_there fs h

  counted_copies : (fs : List FontValue) → counting_boxes (copies fs) ≡ copies fs
  counted_copies fs = elim (cases_Bool (says_nothing u)) [
    | inl t ↦ cond_same (list_any says_nothing (copies fs)) _ _ _ (all_stay fs t) refl
    | inr t ↦ cond-false (list_any says_nothing (copies fs)) _ _ (none_there fs t)
  ]

  one_word : (cmp : List ℕ → List ℕ → Ordering) (word : Box → List ℕ) (fs : List FontValue) →
      fold (sooner cmp) (word u) (map word (copies fs)) ≡ word u
  one_word cmp word [] = refl
  one_word cmp word (f ∷ fs) =
      ap (λ (w : List ℕ). fold (sooner cmp) w (map word (copies fs))) (cond_same (is_gt (cmp (word u) (word u))) (word u) (word u) (word u) refl refl)
      ∙ one_word cmp word fs

  -- the least box that holds one box is that box
  joined_copies : (f : FontValue) (fs : List FontValue) → joined_box (copies (f ∷ fs)) ≡ u
  joined_copies f fs = ap held (counted_copies (f ∷ fs)) ∙ (λ i. record {
    llx = one_word least_first (λ b. b.llx) fs i;
    lly = one_word least_first (λ b. b.lly) fs i;
    urx = one_word greatest_first (λ b. b.urx) fs i;
    ury = one_word greatest_first (λ b. b.ury) fs i;
  })

  -- fonts that each have this box have it as their boxes
  boxes_copies : (fs : List FontValue) → AllByRecursion (λ f. box_of f.shell ≡ Some u) fs → boxes_of fs ≡ Some (copies fs)
  boxes_copies [] h = refl
  boxes_copies (f ∷ fs) h = λ i. option_and_then (λ b. option_map (λ bs. b ∷ bs) (boxes_copies fs h.1 i)) (h.0 i)

  -- fonts that each have this box, and are not changed by it, stay
  pub same_box_stays : (fs : List FontValue) → AllByRecursion (λ f. box_of f.shell ≡ Some u) fs → map (font_with u) fs ≡ fs → boxed fs ≡ fs
  same_box_stays [] h k = refl
  same_box_stays (f ∷ fs) h k =
      ap (boxed_by (f ∷ fs)) (boxes_copies (f ∷ fs) h)
      ∙ (ap (λ (v : Box). all_with v (f ∷ fs)) (joined_copies f fs)
      ∙ cond_same (list_all (can_have u) (f ∷ fs)) (map (font_with u) (f ∷ fs)) (f ∷ fs) (f ∷ fs) k refl)

  -- ---- a font that can have the box

  has_it : (f : FontValue) → can_have u f ≡ true → (box_of (font_with u f).shell ≡ Some u) × (font_with u (font_with u f) ≡ font_with u f)
  has_it f h = by_side (side_in (clear_of f.shell)) refl h
    where
      by_side : (o : Option Side) → side_in (clear_of f.shell) ≡ o → can_have_at u f o ≡ true →
          let x = texts_with u (clear_of f.shell) o in
          (option_map box_at (side_in x) ≡ Some u) × (with_texts f (texts_with u x (side_in x)) ≡ with_texts f x)
      by_side None e t = absurd (true≢false (sym t))
      by_side (Some s) e t =
          let x = clear_of f.shell in
          let r = read_there u x s e (taken_so u f (texts_at u x s) s t).stays in (
            ap (option_map box_at) r ∙ ap Some (box_there u s),
            ap (with_texts f) (ap (texts_with u (texts_at u x s)) r ∙ there_again u u x s),
          )

  pub have_it : (fs : List FontValue) → list_all (can_have u) fs ≡ true → AllByRecursion (λ f. box_of f.shell ≡ Some u) (map (font_with u) fs)
  have_it [] h = tt
  have_it (f ∷ fs) h = let both = and_parts (can_have u f) (list_all (can_have u) fs) h in ((has_it f both.0).0, have_it fs both.1)

  pub keep_it : (fs : List FontValue) → list_all (can_have u) fs ≡ true → map (font_with u) (map (font_with u) fs) ≡ map (font_with u) fs
  keep_it [] h = refl
  keep_it (f ∷ fs) h = let both = and_parts (can_have u f) (list_all (can_have u) fs) h in λ i. (has_it f both.0).1 i ∷ keep_it fs both.1 i

-- ---- what is true of the list that is made

-- a fact of a list that stays, and of one that gets one box, is true of the list that is made
pub by_cases : (P : List FontValue → Type 0) (fs : List FontValue) → (boxed fs ≡ fs → P fs) →
    ((bs : List Box) → boxes_of fs ≡ Some bs → list_all (can_have (joined_box bs)) fs ≡ true → P (map (font_with (joined_box bs)) fs)) → P (boxed fs)
by_cases P fs stays made = by_boxes (boxes_of fs) refl
  where
    by_test : (bs : List Box) → boxes_of fs ≡ Some bs → (b : Bool) → list_all (can_have (joined_box bs)) fs ≡ b →
        P (cond b (map (font_with (joined_box bs)) fs) fs)
    by_test bs e true t = made bs e t
    by_test bs e false t =
        stays (ap (boxed_by fs) e ∙ cond-false (list_all (can_have (joined_box bs)) fs) (map (font_with (joined_box bs)) fs) fs t)

    by_boxes : (o : Option (List Box)) → boxes_of fs ≡ o → P (boxed_by fs o)
    by_boxes None e = stays (ap (boxed_by fs) e)
    by_boxes (Some bs) e = by_test bs e (list_all (can_have (joined_box bs)) fs) refl

pub boxed_twice : BoxedTwice
boxed_twice fs = by_cases (λ gs. boxed gs ≡ gs) fs (λ h. h) (λ bs e t.
    let u = joined_box bs in
    same_box_stays u (map (font_with u) fs) (have_it u fs t) (keep_it u fs t))

same_rest : (u : Box) (fs : List FontValue) → map without_clear (map (font_with u) fs) ≡ map without_clear fs
same_rest u [] = refl
same_rest u (f ∷ fs) = ap (λ (gs : List FontValue). without_clear f ∷ gs) (same_rest u fs)

pub boxed_keeps : BoxedKeeps
boxed_keeps fs = by_cases (λ gs. map without_clear gs ≡ map without_clear fs) fs (λ h. refl) (λ bs e t. same_rest (joined_box bs) fs)

-- ---- fonts of one box

pub own_font : (f : FontValue) (b : Box) → box_of f.shell ≡ Some b → font_with b f ≡ f
own_font f b e = λ i. record { shell = own_box f.shell b e i; encoding = f.encoding; subrs = f.subrs; glyphs = f.glyphs }

own_fonts : (b : Box) (fs : List FontValue) → AllByRecursion (λ f. box_of f.shell ≡ Some b) fs → map (font_with b) fs ≡ fs
own_fonts b [] h = refl
own_fonts b (f ∷ fs) h = λ i. own_font f b h.0 i ∷ own_fonts b fs h.1 i

-- fonts that have the same box, or have none, stay
pub one_box_stays : (o : Option Box) (fs : List FontValue) → AllByRecursion (λ f. box_of f.shell ≡ o) fs → boxed fs ≡ fs
one_box_stays o [] h = refl
one_box_stays None (f ∷ fs) h = ap (λ (o : Option Box). boxed_by (f ∷ fs) (option_and_then (λ b. option_map (λ bs. b ∷ bs) (boxes_of fs)) o)) h.0
one_box_stays (Some b) (f ∷ fs) h = same_box_stays b (f ∷ fs) h (own_fonts b (f ∷ fs) h)

same_boxes : (s : Shell) (fs : List FontValue) → AllByRecursion (λ f. f.shell ≡ s) fs → AllByRecursion (λ f. box_of f.shell ≡ box_of s) fs
same_boxes s [] h = tt
same_boxes s (f ∷ fs) h = (ap box_of h.0, same_boxes s fs h.1)

pub one_shell_stays : OneShellStays
one_shell_stays s fs h = one_box_stays (box_of s) fs (same_boxes s fs h)

-- ---- normalized texts

same_texts : (x y : List ℕ × List ℕ) → same_both x y ≡ true → x ≡ y
same_texts x y h =
    let both = and_parts (bytes_eq x.0 y.0) (bytes_eq x.1 y.1) h in
    λ i. ((bytes_eq-Decides x.0 y.0).0 both.0 i, (bytes_eq-Decides x.1 y.1).0 both.1 i)

normal_with : (s : Shell) (x : List ℕ × List ℕ) → normal_clear x ≡ x → normal_texts s ≡ s → normal_texts (with_clear s x) ≡ with_clear s x
normal_with s x e h = λ i. record {
  head = (e i).0;
  clear_tail = (e i).1;
  private = (h i).private;
  middle = (h i).middle;
  tail = (h i).tail;
  len_iv = s.len_iv;
  subrs = s.subrs;
  glyphs_rd = s.glyphs_rd;
  glyphs_def = s.glyphs_def;
}

pub normal_still : (u : Box) (f : FontValue) → can_have u f ≡ true → normal_texts f.shell ≡ f.shell → normal_texts (with_box u f.shell) ≡ with_box u f.shell
normal_still u f h e = by_side (side_in (clear_of f.shell)) h
  where
    by_side : (o : Option Side) → can_have_at u f o ≡ true →
        let x = texts_with u (clear_of f.shell) o in normal_texts (with_clear f.shell x) ≡ with_clear f.shell x
    by_side None t = absurd (true≢false (sym t))
    by_side (Some s) t =
        let x = texts_at u (clear_of f.shell) s in
        normal_with f.shell x (same_texts (normal_clear x) x (taken_so u f x s t).normal) e

all_normal : (u : Box) (fs : List FontValue) → list_all (can_have u) fs ≡ true → AllByRecursion (λ f. normal_texts f.shell ≡ f.shell) fs →
    AllByRecursion (λ f. normal_texts f.shell ≡ f.shell) (map (font_with u) fs)
all_normal u [] t h = tt
all_normal u (f ∷ fs) t h =
    let both = and_parts (can_have u f) (list_all (can_have u) fs) t in
    (normal_still u f both.0 h.0, all_normal u fs both.1 h.1)

pub boxed_are_normal : BoxedAreNormal
boxed_are_normal fs h =
    by_cases (AllByRecursion (λ f. normal_texts f.shell ≡ f.shell)) fs (λ _. h) (λ bs e t. all_normal (joined_box bs) fs t h)

-- ---- fonts

bytes_left : (a b : List ℕ) → AreBytes (a ++ b) → AreBytes a
bytes_left [] b h = tt
bytes_left (x ∷ a) b h = (h.0, bytes_left a b h.1)

bytes_right : (a b : List ℕ) → AreBytes (a ++ b) → AreBytes b
bytes_right [] b h = h
bytes_right (x ∷ a) b h = bytes_right a b h.1

-- the numbers of a box are bytes
pub record BoxBytes (b : Box) : Type 0 where
  pub llx : AreBytes b.llx
  pub lly : AreBytes b.lly
  pub urx : AreBytes b.urx
  pub ury : AreBytes b.ury

-- and so is a place
record PlaceBytes (p : BoxPlace) : Type 0 where
  front : AreBytes p.front
  start : AreBytes p.start
  box : BoxBytes p.numbers.box
  first : AreBytes p.numbers.first
  second : AreBytes p.numbers.second
  third : AreBytes p.numbers.third
  behind : AreBytes p.behind

place_bytes : (text : List ℕ) (p : BoxPlace) → place_in text ≡ Some p → AreBytes text → PlaceBytes p
place_bytes text p e h =
    let n = p.numbers in
    let a : List ℕ = p.front ++ p.start in
    let b : List ℕ = a ++ n.box.llx in
    let c : List ℕ = b ++ n.first in
    let d : List ℕ = c ++ n.box.lly in
    let f : List ℕ = d ++ n.second in
    let g : List ℕ = f ++ n.box.urx in
    let k : List ℕ = g ++ n.third in
    let l : List ℕ = k ++ n.box.ury in
    let ll : AreBytes (l ++ p.behind) = subst AreBytes (place_is text p e) h in
    let hl = bytes_left l p.behind ll in
    let hk = bytes_left k n.box.ury hl in
    let hg = bytes_left g n.third hk in
    let hf = bytes_left f n.box.urx hg in
    let hd = bytes_left d n.second hf in
    let hc = bytes_left c n.box.lly hd in
    let hb = bytes_left b n.first hc in
    let ha = bytes_left a n.box.llx hb in
    record {
      front = bytes_left p.front p.start ha;
      start = bytes_right p.front p.start ha;
      box = record {
        llx = bytes_right a n.box.llx hb;
        lly = bytes_right c n.box.lly hd;
        urx = bytes_right f n.box.urx hg;
        ury = bytes_right k n.box.ury hl;
      };
      first = bytes_right b n.first hc;
      second = bytes_right d n.second hf;
      third = bytes_right g n.third hk;
      behind = bytes_right l p.behind ll;
    }

text_bytes : (u : Box) (p : BoxPlace) → BoxBytes u → PlaceBytes p → AreBytes (box_place_text (at_place u p))
text_bytes u p b h =
    let n = p.numbers in
    let join = AreBytes-append in
    join _ p.behind (join _ u.ury (join _ n.third (join _ u.urx (join _ n.second (join _ u.lly (join _ n.first
    (join _ u.llx (join p.front p.start h.front h.start) b.llx) h.first) b.lly) h.second) b.urx) h.third) b.ury) h.behind

-- the box of a font is bytes
own_bytes : (x : List ℕ × List ℕ) (b : Box) → option_map box_at (side_in x) ≡ Some b → AreBytes x.0 → AreBytes x.1 → BoxBytes b
own_bytes x b e head tail = by_places (place_in x.0) (place_in x.1) refl refl e
  where
    by_places : (o q : Option BoxPlace) → place_in x.0 ≡ o → place_in x.1 ≡ q → option_map box_at (side_of o q) ≡ Some b → BoxBytes b
    by_places (Some p) q r t k = subst BoxBytes (same_Some p.numbers.box b k) (place_bytes x.0 p r head).box
    by_places None (Some p) r t k = subst BoxBytes (same_Some p.numbers.box b k) (place_bytes x.1 p t tail).box
    by_places None None r t k = absurd (none-some b k)

-- the two texts with another box are bytes
other_bytes : (u : Box) (x : List ℕ × List ℕ) → BoxBytes u → AreBytes x.0 → AreBytes x.1 →
    let y = texts_with u x (side_in x) in AreBytes y.0 × AreBytes y.1
other_bytes u x b head tail = by_places (place_in x.0) (place_in x.1) refl refl
  where
    by_places : (o q : Option BoxPlace) → place_in x.0 ≡ o → place_in x.1 ≡ q →
        let y = texts_with u x (side_of o q) in AreBytes y.0 × AreBytes y.1
    by_places (Some p) q r t = (text_bytes u p b (place_bytes x.0 p r head), tail)
    by_places None (Some p) r t = (head, text_bytes u p b (place_bytes x.1 p t tail))
    by_places None None r t = (head, tail)

-- so are the boxes of fonts
pub all_bytes : (fs : List FontValue) (bs : List Box) → boxes_of fs ≡ Some bs → AllByRecursion IsFont fs → AllByRecursion BoxBytes bs
all_bytes [] bs e h = subst (AllByRecursion BoxBytes) (same_Some [] bs e) tt
all_bytes (f ∷ fs) bs e h = by_parts (box_of f.shell) (boxes_of fs) refl (λ cs t. all_bytes fs cs t h.1) e
  where
    by_parts : (o : Option Box) (q : Option (List Box)) → box_of f.shell ≡ o → ((cs : List Box) → q ≡ Some cs → AllByRecursion BoxBytes cs) →
        option_and_then (λ b. option_map (λ bs. b ∷ bs) q) o ≡ Some bs → AllByRecursion BoxBytes bs
    by_parts None q r more k = absurd (none-some bs k)
    by_parts (Some b) None r more k = absurd (none-some bs k)
    by_parts (Some b) (Some cs) r more k =
        let first : BoxBytes b = own_bytes (clear_of f.shell) b r h.0.texts.head h.0.texts.clear_tail in
        subst (AllByRecursion BoxBytes) (same_Some (b ∷ cs) bs k) (first, more cs refl)

-- and the one box for them
module _ (cmp : List ℕ → List ℕ → Ordering) where
  fold_bytes : (w : List ℕ) (ws : List (List ℕ)) → AreBytes w → AllByRecursion AreBytes ws → AreBytes (fold (sooner cmp) w ws)
  fold_bytes w [] h k = h
  fold_bytes w (v ∷ vs) h k = fold_bytes (sooner cmp w v) vs (cond_both (is_gt (cmp w v)) v w AreBytes (λ _. k.0) (λ _. h)) k.1

  soonest_bytes : (ws : List (List ℕ)) → AllByRecursion AreBytes ws → AreBytes (soonest cmp ws)
  soonest_bytes [] h = tt
  soonest_bytes (w ∷ ws) h = fold_bytes w ws h.0 h.1

words_bytes : (word : Box → List ℕ) → ((b : Box) → BoxBytes b → AreBytes (word b)) → (bs : List Box) → AllByRecursion BoxBytes bs →
    AllByRecursion AreBytes (map word bs)
words_bytes word f [] h = tt
words_bytes word f (b ∷ bs) h = (f b h.0, words_bytes word f bs h.1)

held_bytes : (bs : List Box) → AllByRecursion BoxBytes bs → BoxBytes (held bs)
held_bytes bs h = record {
  llx = soonest_bytes least_first _ (words_bytes (λ b. b.llx) (λ b k. k.llx) bs h);
  lly = soonest_bytes least_first _ (words_bytes (λ b. b.lly) (λ b k. k.lly) bs h);
  urx = soonest_bytes greatest_first _ (words_bytes (λ b. b.urx) (λ b k. k.urx) bs h);
  ury = soonest_bytes greatest_first _ (words_bytes (λ b. b.ury) (λ b k. k.ury) bs h);
}

filter_bytes : (bs : List Box) → AllByRecursion BoxBytes bs → AllByRecursion BoxBytes (filter says_nothing bs)
filter_bytes [] h = tt
filter_bytes (b ∷ bs) h =
    cond_both (says_nothing b) (b ∷ filter says_nothing bs) (filter says_nothing bs) (AllByRecursion BoxBytes)
    (λ _. (h.0, filter_bytes bs h.1)) (λ _. filter_bytes bs h.1)

pub joined_bytes : (bs : List Box) → AllByRecursion BoxBytes bs → BoxBytes (joined_box bs)
joined_bytes bs h = held_bytes (counting_boxes bs)
    (cond_both (list_any says_nothing bs) (filter says_nothing bs) bs (AllByRecursion BoxBytes) (λ _. filter_bytes bs h) (λ _. h))

pub all_fonts : (u : Box) → BoxBytes u → (fs : List FontValue) → list_all (can_have u) fs ≡ true → AllByRecursion IsFont fs →
    AllByRecursion IsFont (map (font_with u) fs)
all_fonts u b [] t h = tt
all_fonts u b (f ∷ fs) t h =
    let both = and_parts (can_have u f) (list_all (can_have u) fs) t in
    let texts = other_bytes u (clear_of f.shell) b h.0.texts.head h.0.texts.clear_tail in
    (had_is_font u f (side_in (clear_of f.shell)) refl both.0 texts.0 texts.1 h.0, all_fonts u b fs both.1 h.1)

pub boxed_are_fonts : BoxedAreFonts
boxed_are_fonts fs h =
    by_cases (AllByRecursion IsFont) fs (λ _. h) (λ bs e t. all_fonts (joined_box bs) (joined_bytes bs (all_bytes fs bs e h)) fs t h)
