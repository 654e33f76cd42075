use Rattle.std.proofs.Common.{◌≡◌, ◌++◌, length}
use Rattle.t1_bytes.specs.Eexec.{spelled_ahead}
use Rattle.t1_bytes.proofs.digits.hex_bytes.Given as goal

abbrev pub invariant-lines : goal.invariant-lines
invariant-lines l = l.bytes.items ++ spelled_ahead l.rest ≡ spelled_ahead l.text

abbrev pub decreases-lines : goal.decreases-lines
decreases-lines l = length l.rest
