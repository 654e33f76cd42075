use Rattle.t1_bytes.proofs.Lanes.{sums_scanned}
use Rattle.t1_bytes.proofs.blocks.sums_of.Goals as goal

pub returns : goal.returns
returns c = sums_scanned c.args.lanes c.fits-lanes.0
