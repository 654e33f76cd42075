use Rattle.std.proofs.Common.{◌+◌, ◌-◌, length}
use Rattle.t1_grammar.specs.Places.{NoneBelow}
use Rattle.t1_text.specs.Boxes.{font_box}
use Rattle.t1_text.proofs.box_places.place_in.Given as goal

abbrev pub invariant-places : goal.invariant-places
invariant-places l = NoneBelow font_box l.text l.from

abbrev pub decreases-places : goal.decreases-places
decreases-places l = length l.text + 1 - l.from
