use Rattle.std.{proofs.Common.{◌≡◌, ◌+◌, ◌≤◌, length, take}, specs.List.{suffix_len}}
use Rattle.t1_text.specs.Numbers.{is_nought}
use Rattle.t1_text.proofs.numbers.trimmed_len.Given as goal

abbrev pub invariant-noughts : goal.invariant-noughts
invariant-noughts l = (l.len ≤ length l.digits) × (l.len + suffix_len is_nought l.digits ≡ length l.digits + suffix_len is_nought (take l.len l.digits))

abbrev pub decreases-noughts : goal.decreases-noughts
decreases-noughts l = l.len
