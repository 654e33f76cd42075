use Rattle.std.proofs.Common.{◌∙◌}
use Rattle.t1_cmd.proofs.rejoins.rejoined_file.Goals as goal

pub returns-clause-text : goal.returns-clause-text
returns-clause-text c = c.filled_file.ensures.text c.args.sources.items (c.as_slice.ensures.value ∙ c.in_ok-normalized.ensures)

pub returns-clause-refused : goal.returns-clause-refused
returns-clause-refused c = c.filled_file.ensures.refused c.args.sources.items (c.as_slice.ensures.value ∙ c.in_ok-normalized.ensures)
