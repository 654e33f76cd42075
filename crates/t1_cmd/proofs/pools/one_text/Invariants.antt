use Rattle.std.proofs.Common.{◌≡◌, ◌≤◌, length, map, drop}
use Rattle.t1_bytes.specs.Limits.{file_limit}
use Rattle.t1_document.specs.Lines.{behind_documents, one_text}
use Rattle.t1_cmd.proofs.pools.one_text.Given as goal

abbrev pub invariant-documents : goal.invariant-documents
invariant-documents l =
    (behind_documents l.text.items (map (λ d. d.now) (drop l.document-index l.documents)) ≡ one_text (map (λ d. d.now) l.documents))
    × (length l.text.items ≤ file_limit)
