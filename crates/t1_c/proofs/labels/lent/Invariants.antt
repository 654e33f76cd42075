use Rattle.std.proofs.Common.{◌≡◌, map, take}
use Rattle.t1_c.proofs.labels.lent.Given as goal

abbrev pub invariant-labels : goal.invariant-labels
invariant-labels l = map (λ t. t.now) l.lent.items ≡ map (λ t. t.items) (take l.label-index l.labels)
