use Rattle.t1_document.proofs.PlaceLemmas.{document_text}
use Rattle.t1_document.proofs.laws.document_of_text.Goals as goal

pub returns : goal.returns
returns c = document_text
