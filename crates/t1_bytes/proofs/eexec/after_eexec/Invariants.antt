use Rattle.std.proofs.Common.{◌≤◌, ◌-◌, length}
use Rattle.t1_bytes.specs.Eexec.{eexec_marker}
use Rattle.t1_grammar.specs.Places.{NoneBelow}
use Rattle.t1_bytes.proofs.eexec.after_eexec.Given as goal

abbrev pub invariant-places : goal.invariant-places
invariant-places l = record { within : l.from ≤ length l.flat; passed : NoneBelow eexec_marker l.flat l.from }

abbrev pub decreases-places : goal.decreases-places
decreases-places l = length l.flat - l.from
