use Rattle.t1_algebra.specs.States.{code_state}
use Rattle.t1_subset.proofs.state_tables.ByNumber.{HasBelow}
use Rattle.t1_subset.proofs.tables.code_table.Given as goal

abbrev pub invariant-codes : goal.invariant-codes
invariant-codes l = HasBelow l.table (code_state l.font.encoding) l.code
