use Rattle.t1_font.proofs.read_fonts.ReadFontLaws.{font_exactly}
use Rattle.t1_font_laws.proofs.laws.is_font_exactly.Goals as goal

pub returns : goal.returns
returns c = font_exactly
