use Rattle.t1_bytes.proofs.ContainerLaws.{written_flat}
use Rattle.t1_bytes.proofs.laws.flattens_written.Goals as goal

pub returns : goal.returns
returns c = written_flat
