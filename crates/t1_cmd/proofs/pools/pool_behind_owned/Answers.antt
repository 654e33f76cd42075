use Rattle.std.proofs.Common.{ℕ, List, map, Vec, Global, subst}
use Rattle.t1_cmd.specs.{Answers.{MayRefuse}, Documents.{PoolsBehind}}
use Rattle.t1_cmd.proofs.pools.pool_behind_owned.Goals as goal

pub returns-in-Err-clause-refused : goal.returns-in-Err-clause-refused
returns-in-Err-clause-refused c =
    subst (λ (ds : List (Vec ℕ Global)). MayRefuse (PoolsBehind c.args.tags (map (λ d. d.items) ds)) c.in-Err.reason) c.as_slice.ensures.value
    (c.in-Err.ensures.refused c.args.tags)
