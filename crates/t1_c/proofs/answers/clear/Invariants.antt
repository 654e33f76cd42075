use Rattle.std.proofs.Common.{◌≡◌, take, length, All}
use Rattle.t1_c.specs.Gives.{HoldsNothing}
use Rattle.t1_c.proofs.answers.clear.Given as goal

abbrev pub invariant-answers : goal.invariant-answers
invariant-answers l = (length l.answers ≡ l.i-end) × All HoldsNothing (take l.i l.answers)
