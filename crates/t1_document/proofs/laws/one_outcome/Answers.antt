use Rattle.t1_document.proofs.OneOutcome.{one_outcome, one_levelled}
use Rattle.t1_document.proofs.laws.one_outcome.Goals as goal

pub returns : goal.returns
returns c = record { texts = one_outcome; levelled = one_levelled }
