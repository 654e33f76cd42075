use Rattle.t1_bytes.proofs.ContainerLaws.{one_split}
use Rattle.t1_bytes.proofs.laws.one_split.Goals as goal

pub returns : goal.returns
returns c = one_split
