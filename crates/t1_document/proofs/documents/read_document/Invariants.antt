use Rattle.std.proofs.Common.{length, map}
use Rattle.t1_document.{specs.Views.{place_view}, proofs.DocumentSteps.{Walks}}
use Rattle.t1_document.proofs.documents.read_document.Given as goal

abbrev pub invariant-stretches : goal.invariant-stretches
invariant-stretches l = Walks l.fn.text l.here l.rest l.around (map place_view l.places.items)

abbrev pub decreases-stretches : goal.decreases-stretches
decreases-stretches l = length l.rest
