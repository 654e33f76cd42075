use Rattle.t1_font.proofs.Reasoned.{refuses, refuses_again}
use Rattle.t1_text.specs.Dialect.{strict}
use Rattle.t1_font_laws.proofs.laws.refuses_for_reason.Goals as goal

pub returns : goal.returns
returns c file e = (refuses strict file e, refuses_again strict file e)
