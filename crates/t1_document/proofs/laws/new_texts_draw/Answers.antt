use Rattle.t1_document.proofs.NewTextsDraw.{new_texts_draw}
use Rattle.t1_document.proofs.laws.new_texts_draw.Goals as goal

pub returns : goal.returns
returns c = new_texts_draw
