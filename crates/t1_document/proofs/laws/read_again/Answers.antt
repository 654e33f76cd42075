use Rattle.t1_document.proofs.StretchLemmas.{stretches_again}
use Rattle.t1_document.proofs.laws.read_again.Goals as goal

pub returns : goal.returns
returns c = stretches_again
