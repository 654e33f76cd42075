use Rattle.std.proofs.Common.{◌-◌, length}
use Rattle.t1_bytes.proofs.SegmentMoves.{Joins}
use Rattle.t1_bytes.proofs.pfb.join.Given as goal

abbrev pub invariant-segments : goal.invariant-segments
invariant-segments l = Joins l.fn.file.items l.file.items l.len l.at

abbrev pub decreases-segments : goal.decreases-segments
decreases-segments l = length l.file.items - l.at
