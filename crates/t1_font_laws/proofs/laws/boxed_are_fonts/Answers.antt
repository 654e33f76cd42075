use Rattle.t1_font.proofs.normal_fonts.Boxes.{boxed_are_fonts, boxed_are_normal}
use Rattle.t1_font_laws.proofs.laws.boxed_are_fonts.Goals as goal

pub returns-clause-fonts : goal.returns-clause-fonts
returns-clause-fonts c = boxed_are_fonts

pub returns-clause-texts : goal.returns-clause-texts
returns-clause-texts c = boxed_are_normal
