use Rattle.t1_font.proofs.canonical.LengthLemmas.{canon_short}
use Rattle.t1_font_laws.proofs.laws.canon_is_short.Goals as goal

pub returns : goal.returns
returns c = canon_short
