use Rattle.t1_font_laws.proofs.Differing.{meets_smallest}
use Rattle.t1_font_laws.proofs.laws.meets_smallest.Goals as goal

pub returns : goal.returns
returns c = meets_smallest
