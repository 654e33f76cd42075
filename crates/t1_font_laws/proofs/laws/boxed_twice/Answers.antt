use Rattle.t1_font.proofs.normal_fonts.Boxes.{boxed_twice, boxed_keeps}
use Rattle.t1_font_laws.proofs.laws.boxed_twice.Goals as goal

pub returns-clause-twice : goal.returns-clause-twice
returns-clause-twice c = boxed_twice

pub returns-clause-others : goal.returns-clause-others
returns-clause-others c = boxed_keeps
