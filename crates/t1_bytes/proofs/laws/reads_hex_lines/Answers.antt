use Rattle.t1_bytes.proofs.HexLines.{lines_read}
use Rattle.t1_bytes.proofs.laws.reads_hex_lines.Goals as goal

pub returns : goal.returns
returns c = lines_read
