use Rattle.std.proofs.Common.{◌≡◌, ◌*◌, take, length}
use Rattle.t1_bytes.specs.Eexec.{paired}
use Rattle.t1_bytes.proofs.digits.line_bytes.Given as goal

abbrev pub invariant-bytes : goal.invariant-bytes
invariant-bytes l = record { size : length l.bytes ≡ 32; so_far : take l.i l.bytes ≡ paired (take (2 * l.i) l.line) }
