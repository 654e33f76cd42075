use Rattle.t1_algebra.proofs.Tables.{state_in}
use Rattle.t1_subset.proofs.name_states.NameTable.proof_states.Goals as goal

pub returns : goal.returns
returns c = state_in c.self.inside.glyphs c.self.inside.sought c.self.invariant _ c.self.view_is
