use Rattle.t1_document.proofs.Together.{levelled_together}
use Rattle.t1_document.proofs.laws.levelled_together.Goals as goal

pub returns : goal.returns
returns c = levelled_together
