use Rattle.t1_document.proofs.StretchLemmas.{stretches_joined, stretches_those}
use Rattle.t1_document.proofs.laws.stretches_of_text.Goals as goal

pub returns : goal.returns
returns c = record { joined = stretches_joined; those = stretches_those }
