use Rattle.std.proofs.Common.{◌≡◌, ◌+◌, ◌*◌, ◌%◌, ◌++◌, ◌≤◌, ◌-◌, length, take, drop}
use Rattle.t1_bytes.specs.{Cipher.{encrypted}, Keys.{key_behind}}
use Rattle.t1_bytes.proofs.cipher.encrypt_from.Given as goal

abbrev pub invariant-bytes : goal.invariant-bytes
invariant-bytes l = (l.from ≤ l.at)
    × ((l.ahead % 65536 ≡ (l.now * 52845 + 22719) % 65536)
    × ((take l.at l.bytes ++ encrypted (l.now % 65536) (drop l.at l.bytes) ≡ take l.from l.fn.bytes ++ encrypted l.key (drop l.from l.fn.bytes))
    × (key_behind (l.now % 65536) (encrypted (l.now % 65536) (drop l.at l.bytes)) ≡ key_behind l.key (encrypted l.key (drop l.from l.fn.bytes)))))

abbrev pub decreases-bytes : goal.decreases-bytes
decreases-bytes l = length l.bytes - l.at
