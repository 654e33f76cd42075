use Rattle.t1_subset.specs.NameSets.{lent}
use Rattle.t1_document.specs.Groups.{outcome_in}
use Rattle.t1_cmd.proofs.FontPlaceLemmas.{ListsSoFar}
use Rattle.t1_cmd.proofs.font_places.push_documents.Given as goal

abbrev pub invariant-documents : goal.invariant-documents
invariant-documents l = ListsSoFar (outcome_in l.joins) (lent l.labels) (lent l.texts) l.initial.out.items l.i l.out.items
