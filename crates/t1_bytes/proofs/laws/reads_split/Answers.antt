use Rattle.t1_bytes.proofs.Splits.{split_reads}
use Rattle.t1_bytes.proofs.laws.reads_split.Goals as goal

pub returns : goal.returns
returns c = split_reads
