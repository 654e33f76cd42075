use Rattle.t1_font.proofs.normal_fonts.NormalStays.{normal_stays, filled_stays}
use Rattle.t1_font_laws.proofs.laws.normal_stays.Goals as goal

pub returns-clause-shell : goal.returns-clause-shell
returns-clause-shell c = normal_stays

pub returns-clause-subrs : goal.returns-clause-subrs
returns-clause-subrs c = filled_stays
