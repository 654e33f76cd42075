-- A place that was read of a text is the text's.
use Rattle.std.proofs.{Common.{◌≡◌, ℕ, true, List, [], ◌++◌, Option, Some, None, refl, sym, ap, ◌∙◌, append_assoc}, lemmas.Bool.{and_parts, true≢false}, lemmas.List.{append-nil}}
use Rattle.std.proofs.{lemmas.Option.{none-some, same_Some}, lemmas.Slice.Eq.{bytes_eq-Decides}}
use Rattle.std.specs.{Prelude.{◌&&◌}, Option.{option_map}, Str.{bytes_eq}}
use Rattle.t1_grammar.specs.Grammar.{first}
use Rattle.t1_bytes.specs.White.{gap}
use Rattle.t1_text.specs.{Numbers.{number}, Boxes.{Box, BoxNumbers, BoxPlace, spaced, box_numbers, font_box, place_in, box_place_text, same_box, same_numbers, same_place, is_read}}
use Rattle.t1_text.proofs.BoxTexts.{opening_spelled}

-- ---- what the tests of places tell

same_bytes : (x y : List ℕ) → bytes_eq x y ≡ true → x ≡ y
same_bytes x y h = (bytes_eq-Decides x y).0 h

pub box_same : (b c : Box) → same_box b c ≡ true → b ≡ c
box_same b c h =
    let p = and_parts (bytes_eq b.llx c.llx && bytes_eq b.lly c.lly && bytes_eq b.urx c.urx) (bytes_eq b.ury c.ury) h in
    let q = and_parts (bytes_eq b.llx c.llx && bytes_eq b.lly c.lly) (bytes_eq b.urx c.urx) p.0 in
    let r = and_parts (bytes_eq b.llx c.llx) (bytes_eq b.lly c.lly) q.0 in
    λ i. record {
      llx = same_bytes b.llx c.llx r.0 i;
      lly = same_bytes b.lly c.lly r.1 i;
      urx = same_bytes b.urx c.urx q.1 i;
      ury = same_bytes b.ury c.ury p.1 i;
    }

numbers_same : (m n : BoxNumbers) → same_numbers m n ≡ true → m ≡ n
numbers_same m n h =
    let p = and_parts (same_box m.box n.box && bytes_eq m.first n.first && bytes_eq m.second n.second) (bytes_eq m.third n.third) h in
    let q = and_parts (same_box m.box n.box && bytes_eq m.first n.first) (bytes_eq m.second n.second) p.0 in
    let r = and_parts (same_box m.box n.box) (bytes_eq m.first n.first) q.0 in
    λ i. record {
      box = box_same m.box n.box r.0 i;
      first = same_bytes m.first n.first r.1 i;
      second = same_bytes m.second n.second q.1 i;
      third = same_bytes m.third n.third p.1 i;
    }

place_same : (p q : BoxPlace) → same_place p q ≡ true → p ≡ q
place_same p q h =
    let a = and_parts (bytes_eq p.front q.front && bytes_eq p.start q.start && same_numbers p.numbers q.numbers) (bytes_eq p.behind q.behind) h in
    let b = and_parts (bytes_eq p.front q.front && bytes_eq p.start q.start) (same_numbers p.numbers q.numbers) a.0 in
    let c = and_parts (bytes_eq p.front q.front) (bytes_eq p.start q.start) b.0 in
    λ i. record {
      front = same_bytes p.front q.front c.0 i;
      start = same_bytes p.start q.start c.1 i;
      numbers = numbers_same p.numbers q.numbers b.1 i;
      behind = same_bytes p.behind q.behind a.1 i;
    }

-- a place that is read is the place
pub read_so : (p : BoxPlace) (o : Option BoxPlace) → is_read p o ≡ true → o ≡ Some p
read_so p None h = absurd (true≢false (sym h))
read_so p (Some q) h = ap Some (sym (place_same p q h))

-- ---- a text is what was read of it

spaced_is : (v : List ℕ × List ℕ) (text rest : List ℕ) → spaced.Spells v text rest → text ≡ v.0 ++ v.1
unfolding number gap spaced
spaced_is v text rest s =
    let a = s.5 in
    s.3
    ∙ ((λ i. s.4.0.0 i ++ (a.3 ∙ ((λ j. a.4.0.0 j ++ a.5.0 j) ∙ append-nil a.0)) i)
    ∙ ap (λ (w : List ℕ × List ℕ). w.0 ++ w.1) a.5.1)

-- the bytes of four numbers
abbrev bytes_of : BoxNumbers → List ℕ
bytes_of n = n.box.llx ++ n.first ++ n.box.lly ++ n.second ++ n.box.urx ++ n.third ++ n.box.ury

seven_parts : (a b c d e f g : List ℕ) → (a ++ b) ++ ((c ++ d) ++ ((e ++ f) ++ (g ++ []))) ≡ a ++ b ++ c ++ d ++ e ++ f ++ g
seven_parts a b c d e f g = simp (append_assoc, append-nil)

numbers_are : (n : BoxNumbers) (text rest : List ℕ) → box_numbers.Spells n text rest → text ≡ bytes_of n
unfolding number box_numbers
numbers_are n text rest s =
    let a = s in
    let b = a.5 in
    let c = b.5 in
    let d = c.5 in
    a.3
    ∙ ((λ i. spaced_is a.0 a.1 _ a.4 i ++ (b.3
    ∙ (λ j. spaced_is b.0 b.1 _ b.4 j ++ (c.3 ∙ (λ k. spaced_is c.0 c.1 _ c.4 k ++ (d.3 ∙ (λ l. d.4.0.0 l ++ d.5.0 l)) k)) j)) i)
    ∙ (seven_parts a.0.0 a.0.1 b.0.0 b.0.1 c.0.0 c.0.1 d.0 ∙ ap bytes_of d.5.1))

font_box_is : (v : List ℕ × BoxNumbers) (text rest : List ℕ) → font_box.Spells v text rest → text ≡ v.0 ++ bytes_of v.1
unfolding font_box
font_box_is v text rest a =
    let b = a.5 in
    let c = b.5 in
    a.3
    ∙ ((λ i. opening_spelled a.0 a.1 _ a.4 i
    ++ (b.3 ∙ ((λ j. numbers_are b.0 b.1 _ b.4 j ++ (c.3 ∙ (λ k. c.4.0 k ++ c.5.0 k)) j) ∙ append-nil (bytes_of b.0))) i)
    ∙ ap (λ (w : List ℕ × BoxNumbers). w.0 ++ bytes_of w.1) c.5.1)

all_parts : (f s : List ℕ) (n : BoxNumbers) (r : List ℕ) →
    (f ++ (s ++ bytes_of n)) ++ r ≡ f ++ s ++ n.box.llx ++ n.first ++ n.box.lly ++ n.second ++ n.box.urx ++ n.third ++ n.box.ury ++ r
all_parts f s n r = simp append_assoc

-- a text with a box is the text of its place
pub place_is : (text : List ℕ) (p : BoxPlace) → place_in text ≡ Some p → text ≡ box_place_text p
place_is text p e = by_read ((first font_box).read text) refl e
  where
    as_place : (List ℕ × (List ℕ × BoxNumbers)) × List ℕ → BoxPlace
    as_place x = record { front = x.0.0; start = x.0.1.0; numbers = x.0.1.1; behind = x.1 }

    by_read : (o : Option ((List ℕ × (List ℕ × BoxNumbers)) × List ℕ)) → (first font_box).read text ≡ o →
        option_map (λ x. record { front = x.0.0; start = x.0.1.0; numbers = x.0.1.1; behind = x.1 }) o ≡ Some p → text ≡ box_place_text p
    by_read None r k = absurd (none-some p k)
    by_read (Some x) r k =
        let s = (first font_box).takes text x r in
        let whole : text ≡ (x.0.0 ++ (x.0.1.0 ++ bytes_of x.0.1.1)) ++ x.1 =
        s.1 ∙ ap (λ (u : List ℕ). u ++ x.1) (s.2.1 ∙ ap (λ (u : List ℕ). x.0.0 ++ u) (font_box_is x.0.1 s.2.0 x.1 s.2.2)) in
        whole ∙ (all_parts x.0.0 x.0.1.0 x.0.1.1 x.1 ∙ ap box_place_text (same_Some _ p k))
