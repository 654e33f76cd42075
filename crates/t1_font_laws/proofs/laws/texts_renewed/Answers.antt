use Rattle.t1_font.proofs.normal_fonts.Renewed.{texts_renewed}
use Rattle.t1_font_laws.proofs.laws.texts_renewed.Goals as goal

pub returns : goal.returns
returns c = texts_renewed
