-- The FontBBox in a text (Adobe Type 1 Font Format 1.1, chapter 2), and the least box that holds some.
use Rattle.std.specs.{Prelude.{ℕ, ◌&&◌, ◌||◌, Bool, false, List, ◌++◌, map, filter, codes, Option, Some, None, is_some, if◌then◌else◌}, List.{list_any}}
use Rattle.std.specs.{Option.{option_map}, Str.{bytes_eq}}
use Rattle.std.proofs.Common.{refl}
use Rattle.t1_grammar.specs.Grammar.{Grammar, pure, ◌>>=◌, ◌>>◌, that, before, count, fixed, first, Begins}
use Rattle.t1_bytes.specs.White.{is_white, white, gap}
use Rattle.t1_text.specs.{Rewriting.{parted}, Numbers.{number, is_zero, least_first, greatest_first, soonest}}

-- ---- boxes

-- the numbers of a box, as they are spelled: its left, lower, right and upper side
pub record Box : Type 0 where
  pub llx : List ℕ
  pub lly : List ℕ
  pub urx : List ℕ
  pub ury : List ℕ

-- a box of four zeros says that nothing is known
abbrev pub says_nothing : Box → Bool
says_nothing b = is_zero b.llx && is_zero b.lly && is_zero b.urx && is_zero b.ury

-- the least box that holds some boxes, each number as one of them spells it
abbrev pub held : List Box → Box
held bs = record {
  llx = soonest least_first (map (λ b. b.llx) bs);
  lly = soonest least_first (map (λ b. b.lly) bs);
  urx = soonest greatest_first (map (λ b. b.urx) bs);
  ury = soonest greatest_first (map (λ b. b.ury) bs);
}

-- those of some boxes that say nothing, where there are any; else all of them
abbrev pub counting_boxes : List Box → List Box
counting_boxes bs = if list_any says_nothing bs then filter says_nothing bs else bs

-- the one box for some boxes; where one of them says nothing, it says nothing
abbrev pub joined_box : List Box → Box
joined_box bs = held (counting_boxes bs)

-- ---- a box in a text

-- an opening brace or bracket
abbrev pub is_opening : List ℕ → Bool
is_opening w = bytes_eq (codes "{") w || bytes_eq (codes "[") w

-- what closes it
abbrev pub closing : List ℕ → List ℕ
closing w = if bytes_eq (codes "{") w then codes "}" else codes "]"

-- white space, which may be none, and what closes this comes
abbrev pub closes_box : List ℕ → List ℕ → Bool
closes_box w text = is_some ((fixed (closing w)).read (parted is_white text).1)

-- `/FontBBox`, white space, a brace or bracket and white space; its value is its bytes, and that brace or bracket
unfoldable pub opening : Grammar (List ℕ × List ℕ)
opening = do
  name ← fixed (codes "/FontBBox")
  space ← white
  bracket ← that is_opening (count 1)
  inside ← white
  pure (name ++ space ++ bracket ++ inside, bracket)

-- a number and white space
unfoldable pub spaced : Grammar (List ℕ × List ℕ)
spaced = do
  w ← number
  space ← gap
  pure (w, space)

-- four numbers and what stands between them
pub record BoxNumbers : Type 0 where
  pub box : Box
  pub first : List ℕ
  pub second : List ℕ
  pub third : List ℕ

unfoldable pub box_numbers : Grammar BoxNumbers
box_numbers = do
  llx ← spaced
  lly ← spaced
  urx ← spaced
  ury ← number
  pure (record { box = record { llx = llx.0; lly = lly.0; urx = urx.0; ury = ury }; first = llx.1; second = lly.1; third = urx.1 })

-- the bytes up to four numbers, and these, before what closes them
unfoldable pub font_box : Grammar (List ℕ × BoxNumbers)
font_box = do
  start ← opening
  four ← box_numbers
  before (closes_box start.1)
  pure (start.0, four)

-- where the box of a text stands: the numbers, and the text around them
pub record BoxPlace : Type 0 where
  pub front : List ℕ
  pub start : List ℕ
  pub numbers : BoxNumbers
  pub behind : List ℕ

-- the first place of a text that has a box
abbrev pub place_in : List ℕ → Option BoxPlace
place_in text = option_map (λ x. record { front = x.0.0; start = x.0.1.0; numbers = x.0.1.1; behind = x.1 }) ((first font_box).read text)

-- four numbers with these spellings
abbrev pub with_numbers : Box → BoxNumbers → BoxNumbers
with_numbers u n = record { box = u; first = n.first; second = n.second; third = n.third }

-- a place with this box in it
abbrev pub at_place : Box → BoxPlace → BoxPlace
at_place u p = record { front = p.front; start = p.start; numbers = with_numbers u p.numbers; behind = p.behind }

-- the text of a place
abbrev pub box_place_text : BoxPlace → List ℕ
box_place_text p =
    let n = p.numbers in
    p.front ++ p.start ++ n.box.llx ++ n.first ++ n.box.lly ++ n.second ++ n.box.urx ++ n.third ++ n.box.ury ++ p.behind

-- ---- what is wanted of them

-- two boxes are spelled by the same bytes
abbrev pub same_box : Box → Box → Bool
same_box b c = bytes_eq b.llx c.llx && bytes_eq b.lly c.lly && bytes_eq b.urx c.urx && bytes_eq b.ury c.ury

abbrev pub same_numbers : BoxNumbers → BoxNumbers → Bool
same_numbers m n = same_box m.box n.box && bytes_eq m.first n.first && bytes_eq m.second n.second && bytes_eq m.third n.third

abbrev pub same_place : BoxPlace → BoxPlace → Bool
same_place p q = bytes_eq p.front q.front && bytes_eq p.start q.start && same_numbers p.numbers q.numbers && bytes_eq p.behind q.behind

-- this place is read
abbrev pub is_read : BoxPlace → Option BoxPlace → Bool
is_read p None = false
is_read p (Some q) = same_place p q

-- ---- the text that a box begins with

pub box_begins : Begins (codes "/FontBBox") font_box
unfolding opening font_box
box_begins bytes none = rw none refl
