use Rattle.t1_algebra.proofs.Fonts.{joined_is_font}
use Rattle.t1_subset.proofs.laws.join_is_font.Goals as goal

pub returns : goal.returns
returns c = joined_is_font _
