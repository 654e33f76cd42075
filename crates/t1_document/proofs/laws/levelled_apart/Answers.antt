use Rattle.t1_document.proofs.LevelledApart.{levelled_apart}
use Rattle.t1_document.proofs.laws.levelled_apart.Goals as goal

pub returns : goal.returns
returns c = levelled_apart
