use Rattle.std.proofs.Common.{◌≡◌, map, drop}
use Rattle.t1_document.specs.Joins.{places_of_all}
use Rattle.t1_cmd.specs.Extracts.{first_named}
use Rattle.t1_cmd.proofs.extracts.place_of.Given as goal

abbrev pub invariant-documents : goal.invariant-documents
invariant-documents l =
    first_named l.name (places_of_all (map (λ d. d.now) (drop l.document-index l.documents)))
    ≡ first_named l.name (places_of_all (map (λ d. d.now) l.documents))
