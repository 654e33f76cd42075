use Rattle.std.proofs.Common.{sym, subst, ℕ, List, ◌≤◌}
use Rattle.t1_run.{specs.SubrSet.{times}, proofs.Indices.{once_listed}}
use Rattle.t1_run.proofs.subr_set.SubrSet.as_slice.Goals as goal

pub returns-clause-once : goal.returns-clause-once
returns-clause-once c =
    subst (λ (indices : List ℕ). (i : ℕ) → times indices i ≤ 1) (sym c.as_slice.ensures.value)
    (once_listed c.self.inside.places.items c.self.inside.order.items c.self.invariant)
