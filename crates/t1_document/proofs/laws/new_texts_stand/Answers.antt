use Rattle.t1_document.proofs.Again.{new_texts_stand}
use Rattle.t1_document.proofs.laws.new_texts_stand.Goals as goal

pub returns : goal.returns
returns c = new_texts_stand
