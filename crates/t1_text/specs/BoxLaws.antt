-- The laws of the one box for some boxes, each the contract of a function in `laws`.
use Rattle.std.specs.{Prelude.{◌≡◌, false, List, ◌∷◌}, Ordering.{is_gt}, List.{AllByRecursion, list_any}, List.Sorted.{IsPermutation}}
use Rattle.t1_text.specs.{Numbers.{value_cmp}, Boxes.{Box, says_nothing, joined_box}}

-- ---- one FontBBox

-- the one box for some boxes is the same in any order
abbrev pub BoxInAnyOrder : Type 0
BoxInAnyOrder = (bs cs : List Box) → IsPermutation bs cs → joined_box bs ≡ joined_box cs

-- a box holds another: its lower numbers are no greater, and its upper ones no less
pub record HoldsBox (b c : Box) : Type 0 where
  pub llx : is_gt (value_cmp b.llx c.llx) ≡ false
  pub lly : is_gt (value_cmp b.lly c.lly) ≡ false
  pub urx : is_gt (value_cmp c.urx b.urx) ≡ false
  pub ury : is_gt (value_cmp c.ury b.ury) ≡ false

-- the one box for some boxes, none of which says nothing, holds each of them
abbrev pub HoldsEach : Type 0
HoldsEach = (bs : List Box) → list_any says_nothing bs ≡ false → AllByRecursion (HoldsBox (joined_box bs)) bs

-- and a box that holds each of them holds it
abbrev pub HeldByAll : Type 0
HeldByAll =
    (u b : Box) (bs : List Box) → list_any says_nothing (b ∷ bs) ≡ false → AllByRecursion (HoldsBox u) (b ∷ bs) → HoldsBox u (joined_box (b ∷ bs))
