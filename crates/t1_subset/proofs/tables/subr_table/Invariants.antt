use Rattle.t1_algebra.specs.{Profile.{profile}, States.{subr_state}}
use Rattle.t1_subset.proofs.state_tables.ByNumber.{HasBefore}
use Rattle.t1_subset.proofs.tables.subr_table.Given as goal

abbrev pub invariant-entries : goal.invariant-entries
invariant-entries l = HasBefore l.table (subr_state profile l.font) l.font.subrs l.index-iterator
