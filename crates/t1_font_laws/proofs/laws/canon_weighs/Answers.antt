use Rattle.t1_font.proofs.canonical.LengthLemmas.{canon_weighs}
use Rattle.t1_font_laws.proofs.laws.canon_weighs.Goals as goal

pub returns : goal.returns
returns c = canon_weighs
