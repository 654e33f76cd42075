use Rattle.std.proofs.Common.{map}
use Rattle.t1_document.proofs.NameLoop.{Gathers}
use Rattle.t1_document.proofs.names.names_of.Given as goal

abbrev pub invariant-places : goal.invariant-places
invariant-places l = Gathers l.places l.place-index (map (λ n. n.now) l.names.items) l.seen
