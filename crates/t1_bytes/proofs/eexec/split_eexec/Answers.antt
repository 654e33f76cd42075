use Rattle.std.proofs.Common.{subst}
use Rattle.t1_bytes.{specs.{Faults.{Answers}, Split.{split, split_view}}, proofs.{EexecLemmas.{split_answers}, Splits.{said_split, said_fails}}}
use Rattle.t1_bytes.proofs.eexec.split_eexec.Goals as goal

pub returns-clause-right : goal.returns-clause-right
returns-clause-right c = split_answers split_view c.args.flat.now c.split.result c.split.ensures

pub returns-clause-only : goal.returns-clause-only
returns-clause-only c = λ at cipher s.
    let flat = c.args.flat.now in
    subst (Answers split_view c.split.result) ((split flat).again (at, cipher) (said_split flat at cipher s)) c.split.ensures

pub returns-clause-refused : goal.returns-clause-refused
returns-clause-refused c = λ fault s.
    let flat = c.args.flat.now in
    subst (Answers split_view c.split.result) ((split flat).refused fault (said_fails flat fault s)) c.split.ensures
