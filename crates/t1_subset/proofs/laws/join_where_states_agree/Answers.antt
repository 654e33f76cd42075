use Rattle.t1_algebra.proofs.{Fonts.{font_within}, FontStates.{join_exactly}}
use Rattle.t1_subset.proofs.laws.join_where_states_agree.Goals as goal

pub returns : goal.returns
returns c f g h = join_exactly _ f g (font_within f h)
