use Rattle.t1_algebra.proofs.{JoinedStates.{subr_joined, name_joined}, FontStates.{states_join}, Subsets.{code_joined}}
use Rattle.t1_subset.proofs.laws.states_of_join.Goals as goal

pub returns : goal.returns
returns c f g j = (states_join _ f g j, subr_joined _ f g j.states, name_joined _ f g j.states, code_joined f.encoding g.encoding j.states.kinds)
