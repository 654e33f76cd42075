use Rattle.t1_subset.{specs.Users.{user_at}, proofs.state_tables.ByNumber.{HasBelow}}
use Rattle.t1_subset.proofs.tables.used.Given as goal

abbrev pub invariant-indices : goal.invariant-indices
invariant-indices l = HasBelow l.used (user_at l.users.items) l.index
