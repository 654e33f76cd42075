use Rattle.t1_subset.proofs.Rejoining.{runs_itself}
use Rattle.t1_subset.proofs.state_making.note_font.Goals as goal

pub note_as-requires-clause-alike : goal.note_as-requires-clause-alike
note_as-requires-clause-alike c = runs_itself c.args.font.now
