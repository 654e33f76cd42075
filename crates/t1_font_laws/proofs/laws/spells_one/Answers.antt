use Rattle.t1_font.proofs.Spelled.{one_font}
use Rattle.t1_text.specs.Dialect.{strict}
use Rattle.t1_font_laws.proofs.laws.spells_one.Goals as goal

pub returns : goal.returns
returns c = one_font strict
