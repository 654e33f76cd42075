use Rattle.t1_document.specs.Groups.{outcome_in}
use Rattle.t1_cmd.proofs.FontPlaceLemmas.{Lists}
use Rattle.t1_cmd.proofs.font_places.push_places.Given as goal

abbrev pub invariant-places : goal.invariant-places
invariant-places l = Lists (outcome_in l.joins) l.label l.initial.out.items l.place-items l.place-index l.out.items l.at
