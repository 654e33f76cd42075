use Rattle.std.proofs.Common.{◌≡◌, ◌++◌, ◌+◌, ◌-◌}
use Rattle.t1_cmd.specs.CodeLists.{codes_from}
use Rattle.t1_cmd.proofs.code_lists.push_codes.Given as goal

abbrev pub invariant-codes : goal.invariant-codes
invariant-codes l = l.codes.items ++ codes_from l.code (l.last + 1 - l.code) ≡ l.initial.codes.items ++ codes_from l.first (l.last + 1 - l.first)
