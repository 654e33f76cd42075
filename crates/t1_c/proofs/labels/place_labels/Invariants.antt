use Rattle.std.proofs.Common.{◌≡◌, map}
use Rattle.t1_c.specs.Gives.{place_labels}
use Rattle.t1_c.proofs.labels.place_labels.Given as goal

abbrev pub invariant-labels : goal.invariant-labels
invariant-labels l = map (λ t. t.items) l.labels.items ≡ place_labels l.place
