use Rattle.t1_bytes.proofs.FlatTexts.{flat_reads}
use Rattle.t1_bytes.proofs.laws.reads_flat.Goals as goal

pub returns : goal.returns
returns c = flat_reads
