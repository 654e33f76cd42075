use Rattle.t1_font.proofs.UntestedFonts.{untested_is_font}
use Rattle.t1_font_laws.proofs.laws.untested_is_font.Goals as goal

pub returns : goal.returns
returns c = untested_is_font
