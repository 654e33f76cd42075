use Rattle.std.proofs.Common.{◌≡◌, ◌++◌, ◌-◌}
use Rattle.t1_dsc.specs.Joining.{times}
use Rattle.t1_dsc.proofs.quiet.push_times.Given as goal

abbrev pub invariant-words : goal.invariant-words
invariant-words l = l.out.items ++ times (l.count - l.counter) l.word ≡ l.fn.out.items ++ times l.count l.word
