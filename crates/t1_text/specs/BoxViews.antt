-- Boxes and their places as the code has them, without where they lie in memory.
use Rattle.t1_text.specs.{declared.joined_boxes.FontBox.{FontBox}, declared.joined_boxes.KeptBox.{KeptBox}, declared.box_places.Numbers.{Numbers as CodeNumbers}}
use Rattle.t1_text.specs.declared.box_places.Place.{Place as CodePlace}
use Rattle.t1_text.specs.Boxes.{Box, BoxNumbers, BoxPlace}

-- the numbers of a box, lent from a font
abbrev pub box_view : FontBox → Box
box_view b = record { llx = b.llx.now; lly = b.lly.now; urx = b.urx.now; ury = b.ury.now }

-- the numbers of a box that is kept by itself
abbrev pub kept_view : KeptBox → Box
kept_view b = record { llx = b.llx.items; lly = b.lly.items; urx = b.urx.items; ury = b.ury.items }

-- the four numbers of a box and what stands between them
abbrev pub numbers_view : CodeNumbers → BoxNumbers
numbers_view n = record { box = box_view n.sides; first = n.first.now; second = n.second.now; third = n.third.now }

-- where the box of a text stands
abbrev pub box_place_view : CodePlace → BoxPlace
box_place_view p = record { front = p.front.now; start = p.start.now; numbers = numbers_view p.numbers; behind = p.behind.now }
