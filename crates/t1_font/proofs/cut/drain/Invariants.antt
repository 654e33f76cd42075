use Rattle.std.{proofs.Common.{◌≡◌, ◌++◌}, specs.Map.{values_of}}
use Rattle.t1_font.proofs.cut.drain.Given as goal

abbrev pub invariant-entries : goal.invariant-entries
invariant-entries g l = l.values.items ++ values_of l.value-iterator ≡ values_of l.fn.map.entries
