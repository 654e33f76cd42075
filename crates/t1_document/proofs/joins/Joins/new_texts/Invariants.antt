use Rattle.t1_document.{specs.{Joins.{new_texts}, Groups.{outcome_in}}, proofs.JoinLoops.{Puts}}
use Rattle.t1_document.proofs.joins.Joins.new_texts.Given as goal

abbrev pub invariant-places : goal.invariant-places
invariant-places l = Puts l.places l.place-index (new_texts (outcome_in l.self)) l.texts
