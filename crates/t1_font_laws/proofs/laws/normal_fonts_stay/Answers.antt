use Rattle.t1_font.proofs.normal_fonts.NormalStays.{normal_fonts_stay}
use Rattle.t1_font_laws.proofs.laws.normal_fonts_stay.Goals as goal

pub returns : goal.returns
returns c = normal_fonts_stay
