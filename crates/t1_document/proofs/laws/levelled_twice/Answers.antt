use Rattle.t1_document.proofs.Rewritten.{levelled_twice}
use Rattle.t1_document.proofs.laws.levelled_twice.Goals as goal

pub returns : goal.returns
returns c = levelled_twice
