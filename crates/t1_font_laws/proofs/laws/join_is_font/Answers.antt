use Rattle.t1_font.proofs.Kept.{join_is_font}
use Rattle.t1_font_laws.proofs.laws.join_is_font.Goals as goal

pub returns : goal.returns
returns c = join_is_font
