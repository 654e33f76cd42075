use Rattle.t1_bytes.proofs.Ciphers.{opened-sealed}
use Rattle.t1_bytes.proofs.laws.opens_sealed.Goals as goal

pub returns : goal.returns
returns c key lead text = opened-sealed key lead text
