use Rattle.std.proofs.Common.{subst, sym}
use Rattle.t1_font.specs.{declared.fault.ReadFault.{ReadFault}, Answers.{Refused}, Pieces.{flat_pieces}}
use Rattle.t1_font.proofs.{FileParts.{split_pieces, split_within, split_lead, split_fails}, NoLonger.{split_no_longer}}
use Rattle.t1_bytes.specs.Split.{cipher_in}
use Rattle.t1_font.proofs.file.found.Goals as goal

pub returns-in-Ok-clause-parts : goal.returns-in-Ok-clause-parts
returns-in-Ok-clause-parts c = split_pieces c.args.flat.now c.in-Ok.end (cipher_in c.args.flat.now c.in-Ok.cipher) c.in-Ok.ensures.right

pub returns-in-Ok-clause-end : goal.returns-in-Ok-clause-end
returns-in-Ok-clause-end c = split_within c.args.flat.now c.in-Ok.end (cipher_in c.args.flat.now c.in-Ok.cipher) c.in-Ok.ensures.right

pub returns-in-Ok-clause-lead : goal.returns-in-Ok-clause-lead
returns-in-Ok-clause-lead c = split_lead c.args.flat.now c.in-Ok.end (cipher_in c.args.flat.now c.in-Ok.cipher) c.in-Ok.ensures.right

pub returns-in-Ok-clause-no_longer : goal.returns-in-Ok-clause-no_longer
returns-in-Ok-clause-no_longer c = split_no_longer c.args.flat.now c.in-Ok.end (cipher_in c.args.flat.now c.in-Ok.cipher) c.in-Ok.ensures.right

pub returns-in-Err-clause-parts : goal.returns-in-Err-clause-parts
returns-in-Err-clause-parts c =
    subst (λ (e : ReadFault). Refused e (flat_pieces c.args.flat.now).read) (sym c.from.ensures)
    (split_fails c.args.flat.now c.in-Err.fault c.in-Err.ensures.right)
