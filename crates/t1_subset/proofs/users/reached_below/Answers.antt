use Rattle.std.proofs.{Common.{None, arith}, Math.ListN.{get_or-eq_default}}
use Rattle.std.proofs.Common.{option_map, ap}
use Rattle.t1_subset.proofs.users.reached_below.Goals as goal

pub returns-then-len-count-clause-none : goal.returns-then-len-count-clause-none
returns-then-len-count-clause-none c = λ q at below.
    ap (option_map (λ n. n.now)) (get_or-eq_default c.args.users.now.items None (omega (arith, at)))
