use Rattle.std.proofs.Common.{◌≡◌, ◌++◌, ◌≤◌, length}
use Rattle.t1_bytes.specs.Eexec.{spelled_ahead}
use Rattle.t1_bytes.proofs.digits.put_pairs.Given as goal

abbrev pub invariant-pairs : goal.invariant-pairs
invariant-pairs l = record { so_far : l.bytes.items ++ spelled_ahead l.rest ≡ l.fn.bytes.items ++ spelled_ahead l.text; within : length l.rest ≤ length l.text }

abbrev pub decreases-pairs : goal.decreases-pairs
decreases-pairs l = length l.rest
