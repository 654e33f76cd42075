use Rattle.t1_algebra.proofs.{Fonts.{font_within}, Orders.{join_self}}
use Rattle.t1_subset.proofs.laws.join_is_idempotent.Goals as goal

pub returns : goal.returns
returns c f h = join_self _ f (font_within f h)
