use Rattle.t1_text.proofs.TestGone.{test_goes}
use Rattle.t1_text.proofs.laws.test_goes.Goals as goal

pub returns : goal.returns
returns c = test_goes
