use Rattle.std.{proofs.Common.{◌≡◌, map, take}, specs.List.{flat_map}}
use Rattle.t1_document.specs.Views.{place_view, document_view}
use Rattle.t1_document.proofs.levelling.all_places.Given as goal

abbrev pub invariant-documents : goal.invariant-documents
invariant-documents l =
    map place_view l.places.items ≡ flat_map (λ d. d.places) (map document_view (take l.document-index l.documents))
