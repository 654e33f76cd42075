use Rattle.t1_run.proofs.Grown.{runs_with_more, draws_with_more}
use Rattle.t1_run.proofs.laws.draws_with_more.Goals as goal

pub returns : goal.returns
returns c = record { runs = runs_with_more; draws = draws_with_more }
