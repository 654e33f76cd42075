use Rattle.t1_algebra.proofs.rejoining.Boxed.{truncated_subsets_rejoin}
use Rattle.t1_cmd.proofs.CutLemmas.{rejoined_any}
use Rattle.t1_cmd.proofs.laws.rejoined.Goals as goal

pub returns : goal.returns
returns c = record { any = rejoined_any; cuts = truncated_subsets_rejoin }
