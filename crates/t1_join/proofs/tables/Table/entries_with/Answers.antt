use Rattle.std.proofs.{Common.{sym, ◌∙◌}, lemmas.Cmp.{nat_list_cmp_total}}
use Rattle.t1_join.proofs.{EntryLemmas.{same_by_cmp}, TablePasses.{merged_entries, entries_same}}
use Rattle.t1_join.proofs.tables.Table.entries_with.Goals as goal

pub returns : goal.returns
returns g c = c.of.ensures ∙ (entries_same _ ∙ sym (merged_entries nat_list_cmp_total same_by_cmp c.args.self.now c.args.other.now))
