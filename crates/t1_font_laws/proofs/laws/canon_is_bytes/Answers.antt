use Rattle.t1_font.proofs.ByteLemmas.{canon_bytes}
use Rattle.t1_font_laws.proofs.laws.canon_is_bytes.Goals as goal

pub returns : goal.returns
returns c = canon_bytes
