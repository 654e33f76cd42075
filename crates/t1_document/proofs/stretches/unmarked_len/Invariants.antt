use Rattle.std.proofs.Common.{◌≡◌, ◌≤◌, ◌+◌, ◌-◌, length, drop}
use Rattle.t1_document.specs.Stretches.{stretches}
use Rattle.t1_document.proofs.stretches.unmarked_len.Given as goal

abbrev pub invariant-lines : goal.invariant-lines
invariant-lines l = record { within : l.len ≤ length l.bytes; before : l.len + length (stretches (drop l.len l.bytes)).0 ≡ length (stretches l.bytes).0 }

abbrev pub decreases-lines : goal.decreases-lines
decreases-lines l = length l.bytes - l.len
