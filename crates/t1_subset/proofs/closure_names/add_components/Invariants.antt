use Rattle.std.proofs.Common.{◌≡◌, drop, map, filter}
use Rattle.t1_algebra.specs.Keep.{has}
use Rattle.t1_subset.specs.ClosureNames.{push_all}
use Rattle.t1_subset.proofs.closure_names.add_components.Given as goal

abbrev pub invariant-components : goal.invariant-components
invariant-components l = push_all l.closure (filter (has l.font) (map (λ s. s.now) (drop l.component-index l.components)))
    ≡ push_all l.fn.closure (filter (has l.font) (map (λ s. s.now) l.components))
