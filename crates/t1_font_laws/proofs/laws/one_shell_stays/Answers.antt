use Rattle.t1_font.proofs.normal_fonts.Boxes.{one_shell_stays}
use Rattle.t1_font_laws.proofs.laws.one_shell_stays.Goals as goal

pub returns : goal.returns
returns c = one_shell_stays
