use Rattle.std.{proofs.Common.{◌≡◌, ◌++◌, drop}, specs.List.{flat_map}}
use Rattle.t1_cmd.specs.Mends.{mend_line}
use Rattle.t1_cmd.proofs.mends.mend_lines.Given as goal

abbrev pub invariant-mends : goal.invariant-mends
invariant-mends l = l.text.items ++ flat_map mend_line (drop l.mend-index l.mends) ≡ flat_map mend_line l.mends
