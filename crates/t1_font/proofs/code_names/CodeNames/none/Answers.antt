use Rattle.t1_font.{proofs.CodeTables.{none_named, none_are}}
use Rattle.t1_font.proofs.code_names.CodeNames.none.Goals as goal

pub invariant_of-result : goal.invariant_of-result
invariant_of-result c = none_are c.as_slice.result c.as_slice.ensures

pub returns : goal.returns
returns c = none_named 256 c.as_slice.result
