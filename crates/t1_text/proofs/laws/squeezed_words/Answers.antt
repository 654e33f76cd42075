use Rattle.t1_text.proofs.Renewed.{squeezed_words}
use Rattle.t1_text.proofs.laws.squeezed_words.Goals as goal

pub returns : goal.returns
returns c = squeezed_words
