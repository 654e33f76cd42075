use Rattle.t1_document.proofs.CanonTexts.{canon_text_is, canon_found, canon_stands}
use Rattle.t1_document.proofs.laws.canon_stands.Goals as goal

pub returns : goal.returns
returns c = record { file = canon_text_is; found = canon_found; stands = canon_stands }
