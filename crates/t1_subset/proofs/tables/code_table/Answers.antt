use Rattle.std.proofs.Common.{◌∙◌, arith}
use Rattle.t1_algebra.specs.States.{code_state}
use Rattle.t1_subset.proofs.{state_tables.Conflicts.{named_so, no_name}, state_tables.ByNumber.{has_none, has_next, codes_filled}}
use Rattle.t1_subset.proofs.tables.code_table.Goals as goal

pub codes-init : goal.codes-init
codes-init c = has_none _ (code_state c.args.font.now.encoding) c.new-table.ensures

pub codes-preserved : goal.codes-preserved
codes-preserved c = has_next c.codes.table (code_state c.args.font.now.encoding) c.codes.code c.codes.invariant c.put.new.table _ c.in_ok-put.ensures
    (c.encoding_at.ensures ∙ named_so c.args.font.now.encoding c.codes.code)

pub returns : goal.returns
returns c = codes_filled c.args.font.now.encoding c.codes.table c.codes.code c.codes.invariant
    (λ i l. no_name c.args.font.now.encoding c.proof_is_font.ensures.encoding i (let t = c.codes-test.false in omega arith))
