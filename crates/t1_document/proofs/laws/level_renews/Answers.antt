use Rattle.t1_document.proofs.Rewritten.{level_renews}
use Rattle.t1_document.proofs.laws.level_renews.Goals as goal

pub returns : goal.returns
returns c = level_renews
