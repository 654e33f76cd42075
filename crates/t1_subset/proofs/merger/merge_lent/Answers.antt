use Rattle.std.proofs.Common.{map}
use Rattle.t1_subset.proofs.Within.{not_shared}
use Rattle.t1_subset.proofs.merger.merge_lent.Goals as goal

pub returns-in-Err-clause-within : goal.returns-in-Err-clause-within
returns-in-Err-clause-within c = not_shared c.args.budget.left (map (λ f. f.now) c.args.fonts.now) c.in-Err.conflict c.in-Err.ensures.memory
