use Rattle.t1_document.proofs.JoinedDocuments.{joined_documents}
use Rattle.t1_document.proofs.laws.joined_documents.Goals as goal

pub returns : goal.returns
returns c = joined_documents
