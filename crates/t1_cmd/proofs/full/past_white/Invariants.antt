use Rattle.std.proofs.Common.{◌≡◌, length}
use Rattle.t1_cmd.specs.FullText.{past_white}
use Rattle.t1_cmd.proofs.full.past_white.Given as goal

abbrev pub invariant-white : goal.invariant-white
invariant-white l = past_white l.rest ≡ past_white l.text

abbrev pub decreases-white : goal.decreases-white
decreases-white l = length l.rest
