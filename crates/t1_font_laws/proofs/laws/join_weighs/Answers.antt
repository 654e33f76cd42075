use Rattle.t1_font.proofs.Kept.{join_heavy}
use Rattle.t1_font_laws.proofs.laws.join_weighs.Goals as goal

pub returns : goal.returns
returns c = join_heavy
