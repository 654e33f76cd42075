use Rattle.std.proofs.Common.{◌≡◌, drop}
use Rattle.t1_algebra.specs.Conflicts.{shell_conflict_among}
use Rattle.t1_subset.proofs.groupings.shells_differ.Given as goal

abbrev pub invariant-fonts : goal.invariant-fonts
invariant-fonts l = shell_conflict_among l.own (drop l.font-index l.fonts) ≡ shell_conflict_among l.own l.fonts
