use Rattle.t1_join.{specs.Meaning.{meaning_cmp}, proofs.Sorted.{no_entries}}
use Rattle.t1_join.proofs.tables.Table.new.Goals as goal

pub returns : goal.returns
returns g c = rw c.new.ensures.items (no_entries meaning_cmp)
