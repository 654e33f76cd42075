use Rattle.std.proofs.Common.{subst}
use Rattle.t1_font.proofs.{Spelled.{reads}, read_fonts.ReadFontLaws.{read_is_font}, AnswersRight.{fault_right}}
use Rattle.t1_bytes.specs.Laws.{AreBytes}
use Rattle.t1_font.proofs.file.read_in.Goals as goal

pub invariant_of-result : goal.invariant_of-result
invariant_of-result c =
    read_is_font c.args.dialect c.args.file.items c.in-Ok.parts (subst AreBytes c.as_slice.ensures.value c.proof_are_bytes.ensures) c.in-Ok.ensures

pub returns-in-Ok-clause-right : goal.returns-in-Ok-clause-right
returns-in-Ok-clause-right c = reads c.args.dialect c.args.file.items c.in-Ok.parts c.in-Ok.ensures

pub returns-in-Err-clause-right : goal.returns-in-Err-clause-right
returns-in-Err-clause-right c = fault_right c.args.dialect c.args.file.items c.in-Err.fault c.in-Err.ensures
