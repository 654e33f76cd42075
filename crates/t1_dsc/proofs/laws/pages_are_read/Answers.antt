use Rattle.t1_dsc.proofs.JoinedRead.{pages_are_read}
use Rattle.t1_dsc.proofs.laws.pages_are_read.Goals as goal

pub returns : goal.returns
returns c = pages_are_read
