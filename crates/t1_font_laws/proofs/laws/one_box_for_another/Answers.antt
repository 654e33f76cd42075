use Rattle.t1_font.proofs.normal_fonts.BoxPlaces.{one_for_another}
use Rattle.t1_font_laws.proofs.laws.one_box_for_another.Goals as goal

pub returns : goal.returns
returns c = one_for_another
