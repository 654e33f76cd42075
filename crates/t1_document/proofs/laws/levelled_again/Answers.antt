use Rattle.t1_document.proofs.Again.{levelled_again}
use Rattle.t1_document.proofs.laws.levelled_again.Goals as goal

pub returns : goal.returns
returns c = levelled_again
