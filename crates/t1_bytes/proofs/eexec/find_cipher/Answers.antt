use Rattle.t1_bytes.{specs.Split.{cipher_in}, proofs.EexecLemmas.{split_answers}}
use Rattle.t1_bytes.proofs.eexec.find_cipher.Goals as goal

pub returns-clause-right : goal.returns-clause-right
returns-clause-right c = split_answers (λ x. (x.0, cipher_in c.args.flat.now x.1)) c.args.flat.now c.find.result c.find.ensures.found
