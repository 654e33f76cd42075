use Rattle.std.proofs.Common.{◌≡◌, ◌++◌}
use Rattle.t1_cmd.proofs.Walks.{codes_under}
use Rattle.t1_cmd.proofs.list.push_codes.Given as goal

abbrev pub invariant-codes : goal.invariant-codes
invariant-codes l = l.out.items ≡ l.initial.out.items ++ codes_under l.font.encoding l.code
