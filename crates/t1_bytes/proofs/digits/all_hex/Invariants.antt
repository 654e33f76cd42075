use Rattle.std.proofs.Common.{◌≡◌, take}
use Rattle.t1_bytes.specs.Eexec.{all_hex}
use Rattle.t1_bytes.proofs.digits.all_hex.Given as goal

abbrev pub invariant-bytes : goal.invariant-bytes
invariant-bytes l = l.digits ≡ all_hex (take l.byte-index l.bytes)
