-- A box that was put into a text is put in again at the same place.
use Rattle.std.proofs.{Common.{◌≡◌, ℕ, true, List, Option, Some, None, refl, sym, ap, ◌∙◌}, lemmas.Bool.{true≢false}}
use Rattle.std.proofs.lemmas.Option.{none-some, same_Some}
use Rattle.std.specs.Option.{option_map}
use Rattle.t1_font.specs.FontValue.{Shell}
use Rattle.t1_text.specs.Boxes.{Box, BoxPlace, place_in, at_place, box_place_text}
use Rattle.t1_font.specs.FontBoxes.{Side, InHead, InTail, side_of, side_in, box_at, texts_at}
use Rattle.t1_font.specs.{FontBoxes.{texts_with, stays_at, stays_in, clear_of, with_clear, box_of, with_box}, NormalizingLaws.{OneBoxForAnother}}
use Rattle.t1_text.proofs.BoxPlaces.{read_so, place_is}

-- ---- the same place again

-- where a box stands that was put there
abbrev pub at_side : Box → Side → Side
at_side u (InHead p) = InHead (at_place u p)
at_side u (InTail p) = InTail (at_place u p)

no_head : (o q : Option BoxPlace) (p : BoxPlace) → side_of o q ≡ Some (InTail p) → o ≡ None
no_head None q p e = refl
no_head (Some r) q p e = absurd cc

-- a box that stays is read where it was put
pub read_there : (u : Box) (x : List ℕ × List ℕ) (s : Side) → side_in x ≡ Some s → stays_at u (texts_at u x s) s ≡ true →
    side_in (texts_at u x s) ≡ Some (at_side u s)
read_there u x (InHead p) e h = ap (λ (o : Option BoxPlace). side_of o (place_in x.1)) (read_so (at_place u p) (place_in (box_place_text (at_place u p))) h)
read_there u x (InTail p) e h =
    (λ i. side_of (no_head (place_in x.0) (place_in x.1) p e i) (place_in (box_place_text (at_place u p))))
    ∙ ap (side_of None) (read_so (at_place u p) (place_in (box_place_text (at_place u p))) h)

-- another box takes its place
pub there_again : (b u : Box) (x : List ℕ × List ℕ) (s : Side) → texts_at u (texts_at b x s) (at_side b s) ≡ texts_at u x s
there_again b u x (InHead p) = refl
there_again b u x (InTail p) = refl

pub box_there : (u : Box) (s : Side) → box_at (at_side u s) ≡ u
box_there u (InHead p) = refl
box_there u (InTail p) = refl

pub texts_again : (b u : Box) (x : List ℕ × List ℕ) (o : Option Side) → side_in x ≡ o → stays_in b (texts_with b x o) o ≡ true →
    texts_with u (texts_with b x o) (side_in (texts_with b x o)) ≡ texts_with u x o
texts_again b u x None e h = absurd (true≢false (sym h))
texts_again b u x (Some s) e h = ap (texts_with u (texts_at b x s)) (read_there b x s e h) ∙ there_again b u x s

pub one_for_another : OneBoxForAnother
one_for_another b u s h = ap (with_clear s) (texts_again b u (clear_of s) (side_in (clear_of s)) refl h)

-- ---- a box in its own place

own_at : (x : List ℕ × List ℕ) (s : Side) → side_in x ≡ Some s → texts_at (box_at s) x s ≡ x
own_at x s e = by_places (place_in x.0) (place_in x.1) refl refl s e
  where
    by_places : (o q : Option BoxPlace) → place_in x.0 ≡ o → place_in x.1 ≡ q → (s : Side) → side_of o q ≡ Some s → texts_at (box_at s) x s ≡ x
    by_places (Some p) q e f (InHead r) k =
        let same : p ≡ r = cc in
        λ i. ((ap box_place_text (sym same) ∙ sym (place_is x.0 p e)) i, x.1)
    by_places (Some p) q e f (InTail r) k = absurd cc
    by_places None (Some p) e f (InTail r) k =
        let same : p ≡ r = cc in
        λ i. (x.0, (ap box_place_text (sym same) ∙ sym (place_is x.1 p f)) i)
    by_places None (Some p) e f (InHead r) k = absurd cc
    by_places None None e f s k = absurd (none-some s k)

-- a shell with its own box is that shell
pub own_box : (s : Shell) (b : Box) → box_of s ≡ Some b → with_box b s ≡ s
own_box s b e = by_side (side_in (clear_of s)) refl e
  where
    by_side : (o : Option Side) → side_in (clear_of s) ≡ o → option_map box_at o ≡ Some b → with_clear s (texts_with b (clear_of s) o) ≡ s
    by_side None r k = absurd (none-some b k)
    by_side (Some d) r k =
        ap (λ (c : Box). with_clear s (texts_at c (clear_of s) d)) (sym (same_Some (box_at d) b k))
        ∙ ap (with_clear s) (own_at (clear_of s) d r)
