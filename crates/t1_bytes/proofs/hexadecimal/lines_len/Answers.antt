use Rattle.std.proofs.Common.{arith}
use Rattle.t1_bytes.proofs.FileLengths.{lines_length}
use Rattle.t1_bytes.proofs.hexadecimal.lines_len.Goals as goal

pub returns : goal.returns
returns c text long = omega (arith, long, lines_length text, c.saturating_mul.ensures, c.div_ceil.ensures, c.saturating_add.ensures)
