use Rattle.std.proofs.Common.{ap, refl}
use Rattle.t1_join.proofs.TablePlaces.{stands, stands_not}
use Rattle.t1_font.specs.{Lent.{named_entries}, Ranges.{named_at}}
use Rattle.t1_font.proofs.lent.RefCharStringsSortedTable.at.Goals as goal

pub returns-in_err-places-in-Stored-clause-entry : goal.returns-in_err-places-in-Stored-clause-entry
returns-in_err-places-in-Stored-clause-entry c =
    rw c.from_residual.ensures (stands_not (named_at c.in-Stored.buffer.now.items) c.in-Stored.places.now (named_entries c.self.inside.form) c.args.self.now
    (ap named_entries c.in-Stored.is) c.self.invariant c.self.view_is c.args.place c.in_err-places-in-Stored.ensures.lookup)

pub returns-in_ok-places-in-Stored-clause-entry : goal.returns-in_ok-places-in-Stored-clause-entry
returns-in_ok-places-in-Stored-clause-entry c =
    stands (named_at c.in-Stored.buffer.now.items) c.in-Stored.places.now (named_entries c.self.inside.form) c.args.self.now (ap named_entries c.in-Stored.is)
    c.self.invariant c.self.view_is c.args.place c.in_ok-places-in-Stored.places _ c.in_ok-places-in-Stored.ensures.lookup refl
