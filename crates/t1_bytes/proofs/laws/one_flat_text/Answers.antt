use Rattle.t1_bytes.proofs.ContainerLaws.{one_flat}
use Rattle.t1_bytes.proofs.laws.one_flat_text.Goals as goal

pub returns : goal.returns
returns c = one_flat
