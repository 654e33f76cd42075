use Rattle.std.proofs.Common.{ap, sym, ◌∙◌}
use Rattle.t1_join.specs.{Meaning.{meaning_cmp}, TableMeaning.{entry_meanings}}
use Rattle.std.specs.FinMap as fin
use Rattle.t1_join.proofs.tables.Table.into_entries.Goals as goal

pub returns : goal.returns
returns g c =
    sym (fin.entries-from_sorted meaning_cmp (entry_meanings g.K.Kept.meaning g.V.Kept.meaning c.self.inside.entries.items) c.self.invariant)
    ∙ ap fin.entries c.self.view_is
