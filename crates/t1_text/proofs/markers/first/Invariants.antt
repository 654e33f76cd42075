use Rattle.std.proofs.Common.{◌+◌, ◌-◌, length}
use Rattle.t1_grammar.specs.Places.{NoneBelow}
use Rattle.t1_text.proofs.markers.first.Given as goal

abbrev pub invariant-places : goal.invariant-places
invariant-places g l = NoneBelow g.M.Marker.marker l.bytes l.from

abbrev pub decreases-places : goal.decreases-places
decreases-places g l = length l.bytes + 1 - l.from
