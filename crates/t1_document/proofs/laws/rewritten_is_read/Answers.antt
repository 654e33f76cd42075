use Rattle.t1_document.proofs.Rewritten.{rewritten_is_read}
use Rattle.t1_document.proofs.laws.rewritten_is_read.Goals as goal

pub returns : goal.returns
returns c = rewritten_is_read
