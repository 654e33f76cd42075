-- Where a box stands, as the code has it, without where it lies in memory; and lists of boxes.
use Rattle.std.specs.{Prelude.{Bool, true, List, [], ◌∷◌, Option, Some, None, if◌then◌else◌}, List.{list_all}}
use Rattle.t1_font.specs.declared.font_boxes.Side.{Side as CodeSide}
use Rattle.t1_font.specs.FontBoxes.{Side, InHead, InTail}
use Rattle.t1_text.specs.Boxes.{Box, same_box, joined_box}
use Rattle.t1_text.specs.BoxViews.{box_place_view}
use Rattle.t1_font.specs.declared.font_boxes.Side.TheVariants as sides

abbrev pub side_view : CodeSide → Side
side_view (sides.InHead p) = InHead (box_place_view p)
side_view (sides.InTail p) = InTail (box_place_view p)

-- ---- lists of boxes

-- all of some boxes are spelled alike
abbrev pub are_alike : List Box → Bool
are_alike [] = true
are_alike (b ∷ bs) = list_all (same_box b) bs

-- the one box for these boxes, where there are any that aren't spelled alike
abbrev pub wanted_box : Option (List Box) → Option Box
wanted_box None = None
wanted_box (Some bs) = if are_alike bs then None else Some (joined_box bs)
