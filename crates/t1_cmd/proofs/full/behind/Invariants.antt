use Rattle.std.proofs.Common.{◌≡◌, length}
use Rattle.t1_cmd.specs.FullText.{text_behind}
use Rattle.t1_cmd.proofs.full.behind.Given as goal

abbrev pub invariant-places : goal.invariant-places
invariant-places l = text_behind l.key l.rest ≡ text_behind l.key l.text

abbrev pub decreases-places : goal.decreases-places
decreases-places l = length l.rest
