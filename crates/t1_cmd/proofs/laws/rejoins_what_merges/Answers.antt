use Rattle.t1_cmd.proofs.RejoinLemmas.{rejoins_what_merges}
use Rattle.t1_cmd.proofs.laws.rejoins_what_merges.Goals as goal

pub returns : goal.returns
returns c = rejoins_what_merges
