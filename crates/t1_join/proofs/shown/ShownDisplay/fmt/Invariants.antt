use Rattle.std.{proofs.Common.{take}, specs.Fmt.{HasWritten, IsPlainFormatter}}
use Rattle.t1_join.specs.Shown.{shown}
use Rattle.t1_join.proofs.shown.ShownDisplay.fmt.Given as goal

abbrev pub invariant-bytes : goal.invariant-bytes
invariant-bytes g l = IsPlainFormatter l.fn.f → HasWritten g.W.Write.write_str_gives l.fn.f (shown (take l.byte-index l.fn.self.0.now)) l.f
