use Rattle.std.proofs.Common.{drop, arith}
use Rattle.t1_bytes.specs.Eexec.{eexec_marker}
use Rattle.t1_grammar.specs.{Grammar.{unread}, Places.{first_nowhere, unread_lacks}}
use Rattle.t1_bytes.proofs.laws.lacks_everywhere.Goals as goal

pub returns : goal.returns
returns c flat = (
  λ lacks k h. unread eexec_marker (drop k flat) (lacks k),
  λ none. unread_lacks eexec_marker flat (first_nowhere eexec_marker flat (λ k h. none k (omega arith))),
)
