use Rattle.t1_font.proofs.AnswersRight.{bytes_of_slice}
use Rattle.t1_font.proofs.file.proof_are_bytes.Goals as goal

pub returns : goal.returns
returns c = bytes_of_slice c.args.bytes.now c.type_inv.bytes
