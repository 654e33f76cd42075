use Rattle.std.proofs.Common.{sym}
use Rattle.t1_subset.{specs.NameSets.{lent}, proofs.closing.Closures.{none_absent}}
use Rattle.t1_subset.proofs.closures.closure_within.Goals as goal

pub closure_of-requires : goal.closure_of-requires
closure_of-requires c = none_absent c.args.font.now (lent c.args.names.now) (sym c.in_default.ensures)
