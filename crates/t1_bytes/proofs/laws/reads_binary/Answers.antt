use Rattle.t1_bytes.proofs.HexLines.{binary_read}
use Rattle.t1_bytes.proofs.laws.reads_binary.Goals as goal

pub returns : goal.returns
returns c = binary_read
