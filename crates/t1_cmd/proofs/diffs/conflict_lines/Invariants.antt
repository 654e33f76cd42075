use Rattle.std.{proofs.Common.{◌≡◌, ◌++◌, drop}, specs.List.{flat_map}}
use Rattle.t1_cmd.specs.Diffs.{conflict_line}
use Rattle.t1_cmd.proofs.diffs.conflict_lines.Given as goal

abbrev pub invariant-conflicts : goal.invariant-conflicts
invariant-conflicts l = l.text.items ++ flat_map conflict_line (drop l.conflict-index l.conflicts) ≡ flat_map conflict_line l.conflicts
