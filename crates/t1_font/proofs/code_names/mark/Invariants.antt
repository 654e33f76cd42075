use Rattle.std.proofs.Common.{◌≤◌}
use Rattle.t1_font.specs.CodeNames.{Marked}
use Rattle.t1_font.proofs.code_names.mark.Given as goal

abbrev pub invariant-codes : goal.invariant-codes
invariant-codes l = (l.code ≤ l.to) × Marked l.initial.named l.named l.from l.code
