use Rattle.t1_font.proofs.NoLonger.{flat_no_longer}
use Rattle.t1_font.proofs.file.flat_text.Goals as goal

pub returns-in-Ok-clause-no_longer : goal.returns-in-Ok-clause-no_longer
returns-in-Ok-clause-no_longer c = flat_no_longer c.args.file.items c.in-Ok.flat.items c.in-Ok.ensures.exact
