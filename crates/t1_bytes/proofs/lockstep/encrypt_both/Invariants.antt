use Rattle.std.proofs.Common.{◌≡◌, ◌+◌, ◌*◌, ◌%◌, ◌++◌, ◌≤◌, ◌-◌, length, take, drop}
use Rattle.t1_bytes.specs.{Cipher.{encrypted}, Keys.{key_behind}}
use Rattle.t1_bytes.proofs.lockstep.encrypt_both.Given as goal

abbrev pub invariant-both : goal.invariant-both
invariant-both l = (l.at ≤ length l.first)
    × (l.at ≤ length l.second)
    × (l.ahead % 65536 ≡ (l.now * 52845 + 22719) % 65536)
    × (l.beyond % 65536 ≡ (l.then * 52845 + 22719) % 65536)
    × (take l.at l.first ++ encrypted (l.now % 65536) (drop l.at l.first) ≡ encrypted l.key l.fn.first)
    × (take l.at l.second ++ encrypted (l.then % 65536) (drop l.at l.second) ≡ encrypted l.other l.fn.second)
    × (key_behind (l.now % 65536) (encrypted (l.now % 65536) (drop l.at l.first)) ≡ key_behind l.key (encrypted l.key l.fn.first))

abbrev pub decreases-both : goal.decreases-both
decreases-both l = length l.first - l.at
