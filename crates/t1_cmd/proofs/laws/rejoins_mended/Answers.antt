use Rattle.t1_cmd.proofs.MendLemmas.{rejoins_mended}
use Rattle.t1_cmd.proofs.laws.rejoins_mended.Goals as goal

pub returns : goal.returns
returns c = rejoins_mended
