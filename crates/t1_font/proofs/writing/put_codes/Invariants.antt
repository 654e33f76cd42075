use Rattle.std.proofs.Common.{◌≡◌, ◌++◌}
use Rattle.t1_font.specs.Writing.{puts_text}
use Rattle.std.specs.FinMap as fin
use Rattle.t1_font.proofs.writing.put_codes.Given as goal

abbrev pub invariant-codes : goal.invariant-codes
invariant-codes l = l.out.items ++ puts_text l.code-iterator ≡ l.fn.out.items ++ puts_text (fin.entries l.names)
