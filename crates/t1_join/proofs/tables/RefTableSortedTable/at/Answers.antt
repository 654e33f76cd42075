use Rattle.std.proofs.Common.{ap, sym}
use Rattle.t1_join.{specs.TableMeaning.{entry_meanings, pair_meaning}, proofs.TablePlaces.{stands_lent}}
use Rattle.t1_join.proofs.tables.RefTableSortedTable.at.Goals as goal

pub returns-clause-entry : goal.returns-clause-entry
returns-clause-entry g c =
    let seen = entry_meanings g.K.Kept.meaning g.V.Kept.meaning in
    stands_lent (pair_meaning g.K.Kept.meaning g.V.Kept.meaning) c.deref.result.now (seen c.self.inside.entries.items) c.args.self.now
    (ap seen (sym c.deref.ensures.value)) c.self.invariant c.self.view_is c.args.place c.get.result c.get.ensures.lookup
