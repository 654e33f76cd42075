use Rattle.std.proofs.lemmas.Result.{on_ok_weaker}
use Rattle.t1_subset.proofs.Telling.{added_one}
use Rattle.t1_subset.proofs.differences.add.Goals as goal

pub returns-in_default : goal.returns-in_default
returns-in_default c = on_ok_weaker c.push_item.result (λ is. added_one _ _ _ is c.in_default.not-Memory) c.push_item.ensures.added
