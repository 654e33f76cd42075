use Rattle.t1_font.proofs.Spelled.{reads, reads_again}
use Rattle.t1_text.specs.Dialect.{strict}
use Rattle.t1_font_laws.proofs.laws.reads_spelled.Goals as goal

pub returns : goal.returns
returns c file font = (reads strict file font, reads_again strict file font)
