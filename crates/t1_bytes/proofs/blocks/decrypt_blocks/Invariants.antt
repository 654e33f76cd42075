use Rattle.std.proofs.Common.{◌≡◌, ◌++◌, ◌≤◌, ◌-◌, length, take, drop}
use Rattle.t1_bytes.specs.Cipher.{decrypted}
use Rattle.t1_bytes.proofs.blocks.decrypt_blocks.Given as goal

abbrev pub invariant-eights : goal.invariant-eights
invariant-eights l = (l.at ≤ length l.bytes) × (take l.at l.bytes ++ decrypted l.now (drop l.at l.bytes) ≡ decrypted l.key l.fn.bytes)

abbrev pub decreases-eights : goal.decreases-eights
decreases-eights l = length l.bytes - l.at
