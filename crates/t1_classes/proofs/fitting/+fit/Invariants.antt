use Rattle.std.proofs.Common.{length}
use Rattle.t1_classes.proofs.fitting.+fit.Given as goal

abbrev pub decreases-fit : goal.decreases-fit
decreases-fit l = length l.files.now
