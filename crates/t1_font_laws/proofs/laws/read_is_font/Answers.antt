use Rattle.t1_font.proofs.read_fonts.ReadFontLaws.{read_is_font}
use Rattle.t1_text.specs.Dialect.{strict}
use Rattle.t1_font_laws.proofs.laws.read_is_font.Goals as goal

pub returns : goal.returns
returns c = read_is_font strict
