-- One FontBBox for a list of fonts (Adobe Type 1 Font Format 1.1, chapter 2): the least box that holds the box of each. Programs that convert one font
-- write another box into each subset of it.
use Rattle.std.specs.{Prelude.{ℕ, ◌&&◌, nat_le, Bool, false, List, [], ◌∷◌, map, Option, Some, None, if◌then◌else◌}, List.{list_all}}
use Rattle.std.specs.Option.{option_map, option_and_then}
use Rattle.t1_font.specs.FontValue.{FontValue, Shell, weight, weight_limit}
use Rattle.t1_font.specs.NormalTexts.{same_both, both_fit, normal_clear}
use Rattle.t1_text.specs.Boxes.{Box, joined_box, BoxPlace, place_in, at_place, box_place_text, is_read}

-- ---- the two texts around the Encoding

-- where their box stands: in the first, or else in the second
pub data Side : Type 0 where
  InHead : BoxPlace → Side
  InTail : BoxPlace → Side

abbrev pub side_of : Option BoxPlace → Option BoxPlace → Option Side
side_of (Some p) q = Some (InHead p)
side_of None (Some q) = Some (InTail q)
side_of None None = None

abbrev pub side_in : List ℕ × List ℕ → Option Side
side_in x = side_of (place_in x.0) (place_in x.1)

-- the box that stands there
abbrev pub box_at : Side → Box
box_at (InHead p) = p.numbers.box
box_at (InTail p) = p.numbers.box

-- the two texts with this box there
abbrev pub texts_at : Box → List ℕ × List ℕ → Side → List ℕ × List ℕ
texts_at u x (InHead p) = (box_place_text (at_place u p), x.1)
texts_at u x (InTail p) = (x.0, box_place_text (at_place u p))

-- the two texts with this box in place of theirs, if they have one
abbrev pub texts_with : Box → List ℕ × List ℕ → Option Side → List ℕ × List ℕ
texts_with u x None = x
texts_with u x (Some s) = texts_at u x s

-- ---- what is wanted of them

-- two texts with this box there have it there when they are read again
abbrev pub stays_at : Box → List ℕ × List ℕ → Side → Bool
stays_at u y (InHead p) = is_read (at_place u p) (place_in y.0)
stays_at u y (InTail p) = is_read (at_place u p) (place_in y.1)

abbrev pub stays_in : Box → List ℕ × List ℕ → Option Side → Bool
stays_in u y None = false
stays_in u y (Some s) = stays_at u y s

-- ---- shells

-- the two texts of a shell
abbrev pub clear_of : Shell → List ℕ × List ℕ
clear_of s = (s.head, s.clear_tail)

-- a shell with these two texts
abbrev pub with_clear : Shell → List ℕ × List ℕ → Shell
with_clear s x = record {
  head = x.0;
  clear_tail = x.1;
  private = s.private;
  middle = s.middle;
  tail = s.tail;
  len_iv = s.len_iv;
  subrs = s.subrs;
  glyphs_rd = s.glyphs_rd;
  glyphs_def = s.glyphs_def;
}

-- the box of a shell
abbrev pub box_of : Shell → Option Box
box_of s = option_map box_at (side_in (clear_of s))

-- the two texts of a shell with this box
abbrev pub clear_with : Box → Shell → List ℕ × List ℕ
clear_with u s = texts_with u (clear_of s) (side_in (clear_of s))

-- a shell with this box in place of its own, if it has one
abbrev pub with_box : Box → Shell → Shell
with_box u s = with_clear s (clear_with u s)

-- read again, it has this box where its own stood
abbrev pub box_stays : Box → Shell → Bool
box_stays u s = stays_in u (clear_with u s) (side_in (clear_of s))

-- ---- fonts

-- a font with these two texts
abbrev pub with_texts : FontValue → List ℕ × List ℕ → FontValue
with_texts f x = record { shell = with_clear f.shell x; encoding = f.encoding; subrs = f.subrs; glyphs = f.glyphs }

-- a font with this box in place of its own, if it has one
abbrev pub font_with : Box → FontValue → FontValue
font_with u f = with_texts f (clear_with u f.shell)

-- A font can have these two texts, in which this box stands there: they are texts of a font, they are normalized, and read again they have the box there;
-- and the font is within the weight limit.
abbrev pub can_take : Box → FontValue → List ℕ × List ℕ → Side → Bool
can_take u f x s = both_fit x && (same_both (normal_clear x) x && (stays_at u x s && nat_le (weight (with_texts f x)) weight_limit))

-- a font that has a box can have this one in its place
abbrev pub can_have_at : Box → FontValue → Option Side → Bool
can_have_at u f None = false
can_have_at u f (Some s) = can_take u f (texts_at u (clear_of f.shell) s) s

abbrev pub can_have : Box → FontValue → Bool
can_have u f = can_have_at u f (side_in (clear_of f.shell))

-- a font with this box if it can have it
abbrev pub if_can : Box → FontValue → FontValue
if_can u f = if can_have u f then font_with u f else f

-- ---- lists of fonts

-- the boxes of fonts, if each has one
abbrev pub boxes_of : List FontValue → Option (List Box)
boxes_of [] = Some []
boxes_of (f ∷ fs) = option_and_then (λ b. option_map (λ bs. b ∷ bs) (boxes_of fs)) (box_of f.shell)

-- fonts with this box, if each can have it; else they stay
abbrev pub all_with : Box → List FontValue → List FontValue
all_with u fs = if list_all (can_have u) fs then map (font_with u) fs else fs

-- fonts with the one box for these boxes; where there are none, they stay
abbrev pub boxed_by : List FontValue → Option (List Box) → List FontValue
boxed_by fs None = fs
boxed_by fs (Some bs) = all_with (joined_box bs) fs

-- fonts with one box, the least that holds the box of each, if each has one and can have that one; else they stay
abbrev pub boxed : List FontValue → List FontValue
boxed fs = boxed_by fs (boxes_of fs)
