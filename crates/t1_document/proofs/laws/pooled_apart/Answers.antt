use Rattle.t1_document.proofs.FoundApart.{pooled_apart}
use Rattle.t1_document.proofs.laws.pooled_apart.Goals as goal

pub returns : goal.returns
returns c = pooled_apart
