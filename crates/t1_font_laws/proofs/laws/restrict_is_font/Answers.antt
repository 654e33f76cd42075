use Rattle.t1_font.proofs.Kept.{restrict_is_font, restrict_light}
use Rattle.t1_font_laws.proofs.laws.restrict_is_font.Goals as goal

pub returns : goal.returns
returns c names subrs f h has = (restrict_is_font names subrs f h has, restrict_light names subrs f)
