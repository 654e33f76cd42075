use Rattle.t1_document.proofs.OwnTexts.{own_texts_stand, own_texts_stay}
use Rattle.t1_document.proofs.laws.own_texts_stay.Goals as goal

pub returns : goal.returns
returns c = record { stand = own_texts_stand; stay = own_texts_stay }
