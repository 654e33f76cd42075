use Rattle.std.proofs.Common.{◌≡◌, map, drop}
use Rattle.t1_run.{specs.Standard.{named_in}, proofs.StandardNames.{run_of}}
use Rattle.t1_run.proofs.standard.name_in.Given as goal

-- No run that was passed has a name for the code.
abbrev pub invariant-loop-first : goal.invariant-loop-first
invariant-loop-first l = named_in (map run_of (drop l.first-index l.runs)) l.code ≡ named_in (map run_of l.fn.runs) l.fn.code
