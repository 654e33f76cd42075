use Rattle.t1_document.proofs.JoinLoops.{Come}
use Rattle.t1_document.proofs.joins.joins_of.Given as goal

abbrev pub invariant-places : goal.invariant-places
invariant-places l = Come l.places l.place-index l.joins
