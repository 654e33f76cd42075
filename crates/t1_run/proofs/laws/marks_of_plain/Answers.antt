use Rattle.t1_run.proofs.Marks.{makes_its_marks}
use Rattle.t1_run.proofs.laws.marks_of_plain.Goals as goal

pub returns : goal.returns
returns c = makes_its_marks
